-- Expressions (ISO/IEC 8652:2012, 4.4), one clause a production.
use Rattle.std.specs.Prelude.{◌≡◌, ◌≤◌, ℕ, ◌∷◌}
use Rattle.rv_lex.specs.declared.kind.Kind.{Kind}
use Rattle.rv_lex.specs.declared.kind.Kind.TheVariants as k
use Rattle.rv_lex.specs.Lexes.{Lexeme}
use Rattle.rv_lex.specs.Literals.{value_of}
use Rattle.rv_tree.specs.Operators.{LogicalOperator, RelationalOperator, AddingOperator, MultiplyingOperator, HighestOperator}
use Rattle.rv_tree.specs.declared.expression.LogicalOperator.TheVariants as logic
use Rattle.rv_tree.specs.declared.expression.RelationalOperator.TheVariants as relates
use Rattle.rv_tree.specs.declared.expression.AddingOperator.TheVariants as adds
use Rattle.rv_tree.specs.declared.expression.MultiplyingOperator.TheVariants as multiplies
use Rattle.rv_tree.specs.declared.expression.HighestOperator.TheVariants as before
use Rattle.rv_tree.specs.Phrases.{Phrase, ◌⨾◌, Is, IsAt, Nothing, Never, When}
use Rattle.rv_tree.specs.NameGrammar.{IsIdentifier, IsName}
use Rattle.rv_tree.specs.Expressions.{Expression, literal, name, attribute, call, parenthesized, highest, product, signed, sum, relation, logical, Expressions, no_expressions, and_expression, Factors, no_factors, and_factor, Terms, no_terms, and_term, RangeConstraint}

-- "and" | "or" | "xor" | "and" "then" | "or" "else"
abbrev pub IsLogical : LogicalOperator → Phrase
IsLogical logic.And = Is k.And
IsLogical logic.Or = Is k.Or
IsLogical logic.Xor = Is k.Xor
IsLogical logic.AndThen = Is k.And ⨾ Is k.Then
IsLogical logic.OrElse = Is k.Or ⨾ Is k.Else

abbrev pub relational : RelationalOperator → Kind
relational relates.Equal = k.Equal
relational relates.NotEqual = k.NotEqual
relational relates.Less = k.Less
relational relates.LessEqual = k.LessEqual
relational relates.Greater = k.Greater
relational relates.GreaterEqual = k.GreaterEqual

abbrev pub adding : AddingOperator → Kind
adding adds.Plus = k.Plus
adding adds.Minus = k.Minus

abbrev pub multiplying : MultiplyingOperator → Kind
multiplying multiplies.Times = k.Times
multiplying multiplies.Divide = k.Divide
multiplying multiplies.Mod = k.Mod
multiplying multiplies.Rem = k.Rem

abbrev pub highest_word : HighestOperator → Kind
highest_word before.Abs = k.Abs
highest_word before.Not = k.Not

abbrev pub IsLiteral : ℕ → ℕ → Phrase
IsLiteral at value old new = (t : Lexeme) × (old ≡ t ∷ new) × (t.kind ≡ k.Literal) × (t.place ≡ at) × (value_of t.text ≡ value)

-- The rules that trees of expressions are of: a rule takes the trees of the rules before it too.
abbrev pub a_primary : ℕ
a_primary = 0

abbrev pub a_factor : ℕ
a_factor = 1

abbrev pub a_term : ℕ
a_term = 2

abbrev pub a_signed_term : ℕ
a_signed_term = 3

abbrev pub a_simple_expression : ℕ
a_simple_expression = 4

abbrev pub a_relation : ℕ
a_relation = 5

abbrev pub an_expression : ℕ
an_expression = 6

abbrev pub rule_of : Expression → ℕ
rule_of (literal at value) = a_primary
rule_of (name n) = a_primary
rule_of (attribute n i) = a_primary
rule_of (call n es) = a_primary
rule_of (parenthesized at e) = a_primary
rule_of (highest at op e) = a_factor
rule_of (product e fs) = a_term
rule_of (signed at op e) = a_signed_term
rule_of (sum e ts) = a_simple_expression
rule_of (relation e op f) = a_relation
rule_of (logical op e es) = an_expression

abbrev mutual
  -- expr = rel {logical rel}, with one operator
  -- rel = simple [relational simple]
  -- simple = [sign] term {adding term}
  -- term = factor {multiplying factor}
  -- factor = ["abs" | "not"] primary
  -- primary = literal | name ["'" id] | name args | "(" expr ")"
  pub IsExpression : Expression → Phrase
  IsExpression (literal at value) = IsLiteral at value
  IsExpression (name n) = IsName n
  IsExpression (attribute n i) = IsName n ⨾ Is k.Apostrophe ⨾ IsIdentifier i
  IsExpression (call n es) = IsName n ⨾ AreArguments es
  IsExpression (parenthesized at e) = IsAt k.LeftParenthesis at ⨾ IsExpression e ⨾ Is k.RightParenthesis
  IsExpression (highest at op e) = IsAt (highest_word op) at ⨾ When (rule_of e ≤ a_primary) (IsExpression e)
  IsExpression (product e no_factors) = Never
  IsExpression (product e (and_factor op f fs)) = When (rule_of e ≤ a_factor) (IsExpression e) ⨾ MoreFactors (and_factor op f fs)
  IsExpression (signed at op e) = IsAt (adding op) at ⨾ When (rule_of e ≤ a_term) (IsExpression e)
  IsExpression (sum e no_terms) = Never
  IsExpression (sum e (and_term op t ts)) = When (rule_of e ≤ a_signed_term) (IsExpression e) ⨾ MoreTerms (and_term op t ts)
  IsExpression (relation e op f) = When (rule_of e ≤ a_simple_expression) (IsExpression e) ⨾ Is (relational op) ⨾ When (rule_of f ≤ a_simple_expression) (IsExpression f)
  IsExpression (logical op e no_expressions) = Never
  IsExpression (logical op e (and_expression f fs)) = When (rule_of e ≤ a_relation) (IsExpression e) ⨾ MoreRelations op (and_expression f fs)

  -- args = "(" expr {"," expr} ")"
  pub AreArguments : Expressions → Phrase
  AreArguments no_expressions = Never
  AreArguments (and_expression e es) = Is k.LeftParenthesis ⨾ IsExpression e ⨾ MoreArguments es

  pub MoreArguments : Expressions → Phrase
  MoreArguments no_expressions = Is k.RightParenthesis
  MoreArguments (and_expression e es) = Is k.Comma ⨾ IsExpression e ⨾ MoreArguments es

  -- {multiplying factor}
  pub MoreFactors : Factors → Phrase
  MoreFactors no_factors = Nothing
  MoreFactors (and_factor op e fs) = Is (multiplying op) ⨾ When (rule_of e ≤ a_factor) (IsExpression e) ⨾ MoreFactors fs

  -- {adding term}
  pub MoreTerms : Terms → Phrase
  MoreTerms no_terms = Nothing
  MoreTerms (and_term op e ts) = Is (adding op) ⨾ When (rule_of e ≤ a_term) (IsExpression e) ⨾ MoreTerms ts

  -- {logical rel}
  pub MoreRelations : LogicalOperator → Expressions → Phrase
  MoreRelations op no_expressions = Nothing
  MoreRelations op (and_expression e es) = IsLogical op ⨾ When (rule_of e ≤ a_relation) (IsExpression e) ⨾ MoreRelations op es

-- range = "range" expr ".." expr
abbrev pub IsRange : RangeConstraint → Phrase
IsRange r = IsAt k.Range r.at ⨾ IsExpression r.low ⨾ Is k.DoubleDot ⨾ IsExpression r.high
