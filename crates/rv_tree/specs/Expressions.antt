-- The tree of an expression, without where it lies in memory.
use Rattle.std.specs.Prelude.{ℕ, List, [], ◌∷◌}
use Rattle.rv_tree.specs.Operators.{LogicalOperator, RelationalOperator, AddingOperator, MultiplyingOperator, HighestOperator}
use Rattle.rv_tree.specs.Names.{Identifier, Name}

mutual
  pub data Expression : Type 0 where
    literal : (at value : ℕ) → Expression
    name : Name → Expression
    attribute : Name → Identifier → Expression
    call : Name → Expressions → Expression
    parenthesized : (at : ℕ) → Expression → Expression
    highest : (at : ℕ) → HighestOperator → Expression → Expression
    product : Expression → Factors → Expression
    signed : (at : ℕ) → AddingOperator → Expression → Expression
    sum : Expression → Terms → Expression
    relation : Expression → RelationalOperator → Expression → Expression
    logical : LogicalOperator → Expression → Expressions → Expression

  pub data Expressions : Type 0 where
    no_expressions : Expressions
    and_expression : Expression → Expressions → Expressions

  pub data Factors : Type 0 where
    no_factors : Factors
    and_factor : MultiplyingOperator → Expression → Factors → Factors

  pub data Terms : Type 0 where
    no_terms : Terms
    and_term : AddingOperator → Expression → Terms → Terms

pub record Factor : Type 0 where
  pub operator : MultiplyingOperator
  pub operand : Expression

pub record Term : Type 0 where
  pub operator : AddingOperator
  pub operand : Expression

abbrev pub factor_by : MultiplyingOperator → Expression → Factor
factor_by op e = record { operator = op; operand = e }

abbrev pub term_by : AddingOperator → Expression → Term
term_by op e = record { operator = op; operand = e }

abbrev pub expressions_of : List Expression → Expressions
expressions_of [] = no_expressions
expressions_of (e ∷ es) = and_expression e (expressions_of es)

abbrev pub factors_of : List Factor → Factors
factors_of [] = no_factors
factors_of (f ∷ fs) = and_factor f.operator f.operand (factors_of fs)

abbrev pub terms_of : List Term → Terms
terms_of [] = no_terms
terms_of (t ∷ ts) = and_term t.operator t.operand (terms_of ts)

-- range Low .. High
pub record RangeConstraint : Type 0 where
  pub at : ℕ
  pub low : Expression
  pub high : Expression
