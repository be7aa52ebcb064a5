-- A function value that reads a statement in which at most so many statements are open.
use Rattle.std.specs.Prelude.{ℕ, Result, List}
use Rattle.std.specs.declared.alloc.Global.{Global}
use denote.Ref.{MutBor}
use Rattle.rv_lex.specs.Lexes.{Lexeme}
use Rattle.rv_tree.specs.declared.statement.Statement.{Statement}
use Rattle.rv_tree.specs.StatementView.{statement_view}
use Rattle.rv_grammar.specs.declared.fault.ParseFault.{ParseFault}
use Rattle.rv_grammar.specs.StatementRules.{statement}
use Rattle.rv_grammar.specs.Contract.{Reads}

pub record NestsStatements (depth : ℕ) (pre : Global → MutBor (List Lexeme) → ℕ → Type 0)
    (post : Global → MutBor (List Lexeme) → ℕ → Result Statement ParseFault → MutBor (List Lexeme) → Type 0) : Type 0 where
  pub callable : (alloc : Global) (old : MutBor (List Lexeme)) → pre alloc old depth
  pub reads : (alloc : Global) (old new : MutBor (List Lexeme)) (r : Result Statement ParseFault) → post alloc old depth r new
      → Reads statement_view (statement depth old.now) r new.now
