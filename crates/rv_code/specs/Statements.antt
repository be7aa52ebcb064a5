-- Compiled statements, without where they lie in memory.
use Rattle.std.specs.Prelude.{ℕ, ◌+◌, suc, Bool, List, [], ◌∷◌}
use Rattle.rv_event.specs.declared.entry.Exception.{Exception}
use Rattle.rv_shape.specs.declared.kind.Range.{Range}
use Rattle.rv_code.specs.declared.expression.Callee.{Callee}
use Rattle.rv_code.specs.declared.statement.Choice.{Choice}
use Rattle.rv_code.specs.declared.statement.Target.{Target}
use Rattle.rv_code.specs.Expressions.{Expression, Expressions, size, expressions_size}

mutual
  pub data Statement : Type 0 where
    null_statement : Statement
    assign : Target → Expression → Statement
    choice : Branches → Statements → Statement
    selection : Expression → Alternatives → Statement
    while_loop : Expression → Statements → Statement
    for_loop : (parameter : ℕ) → (is_reverse : Bool) → Range → Expression → Expression → Statements → Statement
    exit_when : Expression → Statement
    returns : Statement
    returns_value : Expression → Statement
    raises : Exception → Statement
    reraises : Statement
    calls : Callee → Expressions → List Target → Statement

  pub data Statements : Type 0 where
    no_statements : Statements
    and_statement : Statement → Statements → Statements

  pub data Branches : Type 0 where
    no_branches : Branches
    and_branch : Expression → Statements → Branches → Branches

  pub data Alternatives : Type 0 where
    no_alternatives : Alternatives
    and_alternative : List Choice → Statements → Alternatives → Alternatives

pub record Branch : Type 0 where
  pub condition : Expression
  pub statements : Statements

pub record Alternative : Type 0 where
  pub choices : List Choice
  pub statements : Statements

abbrev pub statements_of : List Statement → Statements
statements_of [] = no_statements
statements_of (s ∷ ss) = and_statement s (statements_of ss)

abbrev pub branches_of : List Branch → Branches
branches_of [] = no_branches
branches_of (b ∷ bs) = and_branch b.condition b.statements (branches_of bs)

abbrev pub alternatives_of : List Alternative → Alternatives
alternatives_of [] = no_alternatives
alternatives_of (a ∷ more) = and_alternative a.choices a.statements (alternatives_of more)

-- how many nodes it has, itself left out: a measure of what is left to run (own)
unfoldable mutual
  pub statement_size : Statement → ℕ
  statement_size null_statement = 0
  statement_size (assign target e) = suc (size e)
  statement_size (choice bs otherwise) = suc (suc (branches_size bs + statements_size otherwise))
  statement_size (selection e more) = suc (size e + alternatives_size more)
  statement_size (while_loop e ss) = suc (suc (size e + statements_size ss))
  statement_size (for_loop parameter is_reverse range low high ss) = suc (suc (size low + size high + statements_size ss))
  statement_size (exit_when e) = suc (size e)
  statement_size returns = 0
  statement_size (returns_value e) = suc (size e)
  statement_size (raises exception) = 0
  statement_size reraises = 0
  statement_size (calls callee es targets) = suc (suc (expressions_size es))

  pub statements_size : Statements → ℕ
  statements_size no_statements = 0
  statements_size (and_statement s ss) = suc (statement_size s + statements_size ss)

  pub branches_size : Branches → ℕ
  branches_size no_branches = 0
  branches_size (and_branch e ss bs) = suc (size e + statements_size ss + branches_size bs)

  pub alternatives_size : Alternatives → ℕ
  alternatives_size no_alternatives = 0
  alternatives_size (and_alternative choices ss more) = suc (statements_size ss + alternatives_size more)
