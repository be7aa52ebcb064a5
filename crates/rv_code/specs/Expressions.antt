-- Compiled expressions, without where they lie in memory.
use Rattle.std.specs.Prelude.{ℕ, ◌+◌, suc, ℤ, List, [], ◌∷◌}
use Rattle.rv_shape.specs.declared.kind.Range.{Range}
use Rattle.rv_code.specs.declared.expression.Prefix.{Prefix}
use Rattle.rv_code.specs.declared.expression.Operator.{Operator}
use Rattle.rv_code.specs.declared.expression.Callee.{Callee}

mutual
  pub data Expression : Type 0 where
    literal : ℤ → Expression
    variable : ℕ → Expression
    component : ℕ → Expression
    prefixed : Prefix → Expression → Expression
    chain : Expression → Links → Expression
    within : Range → Expression → Expression
    call : Callee → Expressions → Expression

  pub data Expressions : Type 0 where
    no_expressions : Expressions
    and_expression : Expression → Expressions → Expressions

  pub data Links : Type 0 where
    no_links : Links
    and_link : Operator → Expression → Links → Links

pub record Link : Type 0 where
  pub operator : Operator
  pub operand : Expression

abbrev pub expressions_of : List Expression → Expressions
expressions_of [] = no_expressions
expressions_of (e ∷ es) = and_expression e (expressions_of es)

abbrev pub links_of : List Link → Links
links_of [] = no_links
links_of (l ∷ ls) = and_link l.operator l.operand (links_of ls)

-- how many nodes it has, itself left out: a measure of what is left to evaluate (own)
unfoldable mutual
  pub size : Expression → ℕ
  size (literal n) = 0
  size (variable slot) = 0
  size (component index) = 0
  size (prefixed op e) = suc (size e)
  size (chain e ls) = suc (size e + links_size ls)
  size (within range e) = suc (size e)
  size (call callee es) = suc (suc (expressions_size es))

  pub expressions_size : Expressions → ℕ
  expressions_size no_expressions = 0
  expressions_size (and_expression e es) = suc (size e + expressions_size es)

  pub links_size : Links → ℕ
  links_size no_links = 0
  links_size (and_link op e ls) = suc (size e + links_size ls)
