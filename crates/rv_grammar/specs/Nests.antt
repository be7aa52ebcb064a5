-- A function value that reads an expression in which less parentheses are open one inside another.
use Rattle.std.specs.Prelude.{◌≡◌, ℕ, ◌+◌, Result, List}
use Rattle.std.specs.declared.alloc.Global.{Global}
use denote.Ref.{MutBor}
use Rattle.rv_lex.specs.Lexes.{Lexeme}
use Rattle.rv_tree.specs.declared.expression.Expression.{Expression}
use Rattle.rv_tree.specs.ExpressionView.{expression_view}
use Rattle.rv_grammar.specs.declared.fault.ParseFault.{ParseFault}
use Rattle.rv_grammar.specs.ExpressionRules.{expression}
use Rattle.rv_grammar.specs.Contract.{Reads}

pub record Nests (depth : ℕ) (pre : Global → MutBor (List Lexeme) → ℕ → Type 0)
    (post : Global → MutBor (List Lexeme) → ℕ → Result Expression ParseFault → MutBor (List Lexeme) → Type 0) : Type 0 where
  pub callable : (n : ℕ) → depth ≡ n + 1 → (alloc : Global) (old : MutBor (List Lexeme)) → pre alloc old n
  pub reads : (n : ℕ) → depth ≡ n + 1 → (alloc : Global) (old new : MutBor (List Lexeme)) (r : Result Expression ParseFault) → post alloc old n r new
      → Reads expression_view (expression n old.now) r new.now
