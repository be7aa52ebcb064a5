-- The violations of expressions, their own and those of their parts (ISO/IEC 8652:2012, D.7, D.5).
use Rattle.std.specs.Prelude.{codes, if◌then◌else◌}
use Rattle.rv_text.specs.Names.{is_same_name}
use Rattle.rv_tree.specs.Names.{Identifier, Name}
use Rattle.rv_tree.specs.Expressions.{Expression, literal, name, attribute, call, parenthesized, highest, product, signed, sum, relation, logical, Expressions, no_expressions, and_expression, Factors, no_factors, and_factor, Terms, no_terms, and_term, RangeConstraint}
use Rattle.rv_restrict.specs.declared.violation.Restriction.TheVariants.{NoDynamicPriorities}
use Rattle.rv_restrict.specs.Found.{Note, ◌▷◌, nothing, broken}

-- an attribute Priority, at the place of its prefix (D.5)
abbrev pub attribute_noted : {A : Type 0} → Note A → Name → Identifier → A → A
attribute_noted note prefix named =
    if is_same_name named.text (codes "Priority") then broken note NoDynamicPriorities prefix.first.at else nothing

abbrev mutual
  pub expression_noted : {A : Type 0} → Note A → Expression → A → A
  expression_noted note (literal at number) = nothing
  expression_noted note (name n) = nothing
  expression_noted note (attribute n i) = attribute_noted note n i
  expression_noted note (call n es) = expressions_noted note es
  expression_noted note (parenthesized at e) = expression_noted note e
  expression_noted note (highest at op e) = expression_noted note e
  expression_noted note (product e fs) = expression_noted note e ▷ factors_noted note fs
  expression_noted note (signed at op e) = expression_noted note e
  expression_noted note (sum e ts) = expression_noted note e ▷ terms_noted note ts
  expression_noted note (relation e op f) = expression_noted note e ▷ expression_noted note f
  expression_noted note (logical op e es) = expression_noted note e ▷ expressions_noted note es

  pub expressions_noted : {A : Type 0} → Note A → Expressions → A → A
  expressions_noted note no_expressions = nothing
  expressions_noted note (and_expression e es) = expression_noted note e ▷ expressions_noted note es

  pub factors_noted : {A : Type 0} → Note A → Factors → A → A
  factors_noted note no_factors = nothing
  factors_noted note (and_factor op e fs) = expression_noted note e ▷ factors_noted note fs

  pub terms_noted : {A : Type 0} → Note A → Terms → A → A
  terms_noted note no_terms = nothing
  terms_noted note (and_term op e ts) = expression_noted note e ▷ terms_noted note ts

abbrev pub range_noted : {A : Type 0} → Note A → RangeConstraint → A → A
range_noted note r = expression_noted note r.low ▷ expression_noted note r.high
