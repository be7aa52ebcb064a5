-- Words that nest too deep (own). Nothing here knows how a text is read.
use Rattle.std.specs.Prelude.{◌≡◌, ◌⊎◌, ◌≤◌, ◌+◌, ℕ, zero, suc, true, List, [], ◌∷◌, ◌++◌, Option}
use Rattle.rv_lex.specs.declared.kind.Kind.{Kind}
use Rattle.rv_lex.specs.declared.kind.Kind.TheVariants as k
use Rattle.rv_lex.specs.Lexes.{Lexeme}
use Rattle.rv_tree.specs.Phrases.{Phrase, ◌⨾◌, Is, IsAt, Nothing, Maybe, Listed}
use Rattle.rv_tree.specs.Names.{Identifier}
use Rattle.rv_tree.specs.NameGrammar.{IsIdentifier}
use Rattle.rv_tree.specs.Expressions.{Expression}
use Rattle.rv_tree.specs.ExpressionGrammar.{IsExpression}
use Rattle.rv_tree.specs.Declarations.{Parameter}
use Rattle.rv_tree.specs.DeclarationGrammar.{AreParameters}
use Rattle.rv_tree.specs.Statements.{Choice, Iteration, Guard, Statements, ElsifParts, Alternatives, Selectives, no_selectives, and_selective}
use Rattle.rv_tree.specs.StatementGrammar.{IsChoice, IsIteration, IsGuard, AreStatements, MoreStatements, AreElsifParts, IsElse, AreAlternatives, IsSelective, AreSelectives}
use Rattle.rv_grammar.specs.StatementRules.{sees_statement}

-- how many parentheses a word opens
abbrev pub opens : Kind → ℕ
opens k.LeftParenthesis = 1
opens _ = 0

-- how many it closes
abbrev pub closes : Kind → ℕ
closes k.RightParenthesis = 1
closes _ = 0

-- how many parentheses words open
abbrev pub opened : List Lexeme → ℕ
opened [] = 0
opened (t ∷ ts) = opens t.kind + opened ts

-- how many they close
abbrev pub closed : List Lexeme → ℕ
closed [] = 0
closed (t ∷ ts) = closes t.kind + closed ts

-- somewhere in a row words open more than 64 parentheses that they don't close
pub record ManyParentheses (words : List Lexeme) : Type 0 where
  pub before : List Lexeme
  pub nest : List Lexeme
  pub behind : List Lexeme
  pub whole : words ≡ before ++ (nest ++ behind)
  pub many : closed nest + 65 ≤ opened nest

-- alternatives of a select statement, each with the `or` behind it
abbrev pub EachWithOr : Selectives → Phrase
EachWithOr no_selectives = Nothing
EachWithOr (and_selective a more) = IsSelective a ⨾ Is k.Or ⨾ EachWithOr more

-- from the first word of a statement to that of a statement that it holds
pub data Reaches (old new : List Lexeme) : Type 0 where
  in_if : (at : ℕ) (condition : Expression) (ss : Statements)
      → (IsAt k.If at ⨾ IsExpression condition ⨾ Is k.Then ⨾ MoreStatements ss) old new → Reaches old new
  in_elsif : (at : ℕ) (condition other : Expression) (first ss : Statements) (parts : ElsifParts)
      → (IsAt k.If at ⨾ IsExpression condition ⨾ Is k.Then ⨾ AreStatements first ⨾ AreElsifParts parts ⨾ Is k.Elsif ⨾ IsExpression other ⨾ Is k.Then ⨾ MoreStatements ss) old new → Reaches old new
  in_else : (at : ℕ) (condition : Expression) (first ss : Statements) (parts : ElsifParts)
      → (IsAt k.If at ⨾ IsExpression condition ⨾ Is k.Then ⨾ AreStatements first ⨾ AreElsifParts parts ⨾ Is k.Else ⨾ MoreStatements ss) old new → Reaches old new
  in_case : (at : ℕ) (selector : Expression) (before : Alternatives) (choices : List Choice) (ss : Statements)
      → (IsAt k.Case at ⨾ IsExpression selector ⨾ Is k.Is ⨾ AreAlternatives before ⨾ Is k.When ⨾ Listed k.Bar IsChoice choices ⨾ Is k.Arrow ⨾ MoreStatements ss) old new → Reaches old new
  in_loop : (at : ℕ) (iteration : Iteration) (ss : Statements)
      → (IsIteration at iteration ⨾ MoreStatements ss) old new → Reaches old new
  in_accept : (at : ℕ) (called : Identifier) (parameters : List Parameter) (ss : Statements)
      → (IsAt k.Accept at ⨾ IsIdentifier called ⨾ AreParameters parameters ⨾ Is k.Do ⨾ MoreStatements ss) old new → Reaches old new
  in_select : (at : ℕ) (before : Selectives) (guard : Option Guard) (ss : Statements)
      → (IsAt k.Select at ⨾ EachWithOr before ⨾ Maybe IsGuard guard ⨾ MoreStatements ss) old new → Reaches old new
  in_select_else : (at : ℕ) (alternatives : Selectives) (ss : Statements)
      → (IsAt k.Select at ⨾ AreSelectives alternatives ⨾ Is k.Else ⨾ MoreStatements ss) old new → Reaches old new
  in_abort : (at : ℕ) (alternatives : Selectives) (otherwise ss : Statements)
      → (IsAt k.Select at ⨾ AreSelectives alternatives ⨾ IsElse otherwise ⨾ Is k.Then ⨾ Is k.Abort ⨾ MoreStatements ss) old new → Reaches old new

-- a statement that so many others are open around, from the first word of the outermost
unfoldable pub Nested : ℕ → List Lexeme → Type 0
Nested zero words = sees_statement words ≡ true
Nested (suc n) words = (inner : List Lexeme) × Reaches words inner × Nested n inner

-- somewhere more than 64 statements are open one inside another
pub record ManyStatements (words : List Lexeme) : Type 0 where
  pub before : List Lexeme
  pub inside : List Lexeme
  pub whole : words ≡ before ++ inside
  pub many : Nested 64 inside

-- a front of the words opens too many statements or parentheses that it doesn't close
abbrev pub NestsTooDeep : List Lexeme → Type 0
NestsTooDeep words = ManyParentheses words ⊎ ManyStatements words
