-- The names that expressions use, each with what is declared there and what it is wanted for, in the order of the text
-- (ISO/IEC 8652:2012, 4.4, 8.6).
use Rattle.std.specs.Prelude.{ℕ, [], Option, Some, None}
use Rattle.rv_tree.specs.Names.{Identifier, Name}
use Rattle.rv_tree.specs.Expressions.{Expression, literal, name, attribute, call, parenthesized, highest, product, signed, sum, relation, logical, Expressions, no_expressions, and_expression, Factors, no_factors, and_factor, Terms, no_terms, and_term, RangeConstraint}
use Rattle.rv_scope.specs.declared.wanted.Wanted.{Wanted}
use Rattle.rv_scope.specs.declared.wanted.Wanted.TheVariants as w
use Rattle.rv_scope.specs.Scope.{ScopeView}

-- what is done with each name that is used, what it is wanted for, and what is declared there
abbrev pub Use : Type 0 → Type 0
Use A = ScopeView → Wanted → Name → A → A

infixr 10 ◌▷◌
-- the one, and then the other
abbrev pub ◌▷◌ : {A : Type 0} → (A → A) → (A → A) → A → A
(f ▷ g) used = g (f used)

abbrev pub nothing : {A : Type 0} → A → A
nothing used = used

-- an identifier as a simple name
abbrev pub simple : Identifier → Name
simple i = record { first = i; more = [] }

-- a part at this place that the profile does not have: as a name that is never bound
abbrev pub refused : {A : Type 0} → Use A → ScopeView → ℕ → A → A
refused at_use scope at = at_use scope w.Nothing (simple (record { at = at; text = [] }))

-- those of an expression, of which a name that is all of it may be wanted for something else than a value
abbrev mutual
  pub expression_uses : {A : Type 0} → Use A → ScopeView → Wanted → Expression → A → A
  expression_uses at_use scope wanted (literal at number) = nothing
  expression_uses at_use scope wanted (name n) = at_use scope wanted n
  expression_uses at_use scope wanted (attribute n i) = at_use scope w.Subtype n
  expression_uses at_use scope wanted (call n es) = at_use scope w.Called n ▷ expressions_uses at_use scope es
  expression_uses at_use scope wanted (parenthesized at e) = expression_uses at_use scope w.Value e
  expression_uses at_use scope wanted (highest at op e) = expression_uses at_use scope w.Value e
  expression_uses at_use scope wanted (product e fs) = expression_uses at_use scope w.Value e ▷ factors_uses at_use scope fs
  expression_uses at_use scope wanted (signed at op e) = expression_uses at_use scope w.Value e
  expression_uses at_use scope wanted (sum e ts) = expression_uses at_use scope w.Value e ▷ terms_uses at_use scope ts
  expression_uses at_use scope wanted (relation e op f) = expression_uses at_use scope w.Value e ▷ expression_uses at_use scope w.Value f
  expression_uses at_use scope wanted (logical op e es) = expression_uses at_use scope w.Value e ▷ expressions_uses at_use scope es

  pub expressions_uses : {A : Type 0} → Use A → ScopeView → Expressions → A → A
  expressions_uses at_use scope no_expressions = nothing
  expressions_uses at_use scope (and_expression e es) = expression_uses at_use scope w.Value e ▷ expressions_uses at_use scope es

  pub factors_uses : {A : Type 0} → Use A → ScopeView → Factors → A → A
  factors_uses at_use scope no_factors = nothing
  factors_uses at_use scope (and_factor op e fs) = expression_uses at_use scope w.Value e ▷ factors_uses at_use scope fs

  pub terms_uses : {A : Type 0} → Use A → ScopeView → Terms → A → A
  terms_uses at_use scope no_terms = nothing
  terms_uses at_use scope (and_term op e ts) = expression_uses at_use scope w.Value e ▷ terms_uses at_use scope ts

-- those of an expression that gives a value
abbrev pub value_uses : {A : Type 0} → Use A → ScopeView → Expression → A → A
value_uses at_use scope e = expression_uses at_use scope w.Value e

-- those of a part that may not be there
abbrev pub maybe_uses : {A P : Type 0} → (P → A → A) → Option P → A → A
maybe_uses uses None = nothing
maybe_uses uses (Some part) = uses part

abbrev pub range_uses : {A : Type 0} → Use A → ScopeView → RangeConstraint → A → A
range_uses at_use scope range = value_uses at_use scope range.low ▷ value_uses at_use scope range.high
