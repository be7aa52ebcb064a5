-- The trees of statements, without where they lie in memory.
use Rattle.std.specs.Prelude.{ℕ, Bool, List, [], ◌∷◌, Option}
use Rattle.rv_tree.specs.Names.{Identifier, Name}
use Rattle.rv_tree.specs.Expressions.{Expression, Expressions, RangeConstraint}
use Rattle.rv_tree.specs.Declarations.{Parameter}

pub data Choice : Type 0 where
  others : (at : ℕ) → Choice
  value : Expression → Choice
  between : Expression → Expression → Choice

pub data LoopBounds : Type 0 where
  whole_bounds : Expression → LoopBounds
  two_bounds : Expression → Expression → LoopBounds
  constrained_bounds : Name → RangeConstraint → LoopBounds

pub data Iteration : Type 0 where
  forever : Iteration
  while_true : Expression → Iteration
  for_each : Identifier → Bool → LoopBounds → Iteration

pub record Guard : Type 0 where
  pub at : ℕ
  pub condition : Expression

mutual
  pub data Statement : Type 0 where
    null_statement : (at : ℕ) → Statement
    assignment : Name → Expression → Statement
    call_statement : Name → Expressions → Statement
    if_statement : (at : ℕ) → Expression → Statements → ElsifParts → Statements → Statement
    case_statement : (at : ℕ) → Expression → Alternatives → Statement
    loop_statement : (at : ℕ) → Iteration → Statements → Statement
    exit_statement : (at : ℕ) → Option Expression → Statement
    return_statement : (at : ℕ) → Option Expression → Statement
    raise_statement : (at : ℕ) → Option Name → Statement
    delay_statement : (at : ℕ) → Bool → Expression → Statement
    abort_statement : (at : ℕ) → List Name → Statement
    requeue_statement : (at : ℕ) → Name → Bool → Statement
    accept_statement : (at : ℕ) → Identifier → List Parameter → Statements → Option Identifier → Statement
    select_statement : (at : ℕ) → Selectives → Statements → Statements → Statement

  pub data Statements : Type 0 where
    no_statements : Statements
    and_statement : Statement → Statements → Statements

  pub data ElsifParts : Type 0 where
    no_elsif_parts : ElsifParts
    and_elsif_part : (at : ℕ) → Expression → Statements → ElsifParts → ElsifParts

  pub data Alternatives : Type 0 where
    no_alternatives : Alternatives
    and_alternative : (at : ℕ) → List Choice → Statements → Alternatives → Alternatives

  pub data Selective : Type 0 where
    some_statements : Option Guard → Statements → Selective
    terminate : Option Guard → (at : ℕ) → Selective

  pub data Selectives : Type 0 where
    no_selectives : Selectives
    and_selective : Selective → Selectives → Selectives

pub record ElsifPart : Type 0 where
  pub at : ℕ
  pub condition : Expression
  pub statements : Statements

pub record CaseAlternative : Type 0 where
  pub at : ℕ
  pub choices : List Choice
  pub statements : Statements

abbrev pub statements_of : List Statement → Statements
statements_of [] = no_statements
statements_of (s ∷ ss) = and_statement s (statements_of ss)

abbrev pub elsif_parts_of : List ElsifPart → ElsifParts
elsif_parts_of [] = no_elsif_parts
elsif_parts_of (p ∷ ps) = and_elsif_part p.at p.condition p.statements (elsif_parts_of ps)

abbrev pub alternatives_of : List CaseAlternative → Alternatives
alternatives_of [] = no_alternatives
alternatives_of (a ∷ more) = and_alternative a.at a.choices a.statements (alternatives_of more)

abbrev pub selectives_of : List Selective → Selectives
selectives_of [] = no_selectives
selectives_of (a ∷ more) = and_selective a (selectives_of more)
