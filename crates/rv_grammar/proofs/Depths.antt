-- Rules at a depth that is not 0.
use Rattle.std.proofs.Common.{◌≡◌, ◌<◌, ℕ, zero, suc, ◌+◌, ◌-◌, List, [], ◌∷◌, length, refl, arith}
use Rattle.rv_lex.specs.declared.kind.Kind.TheVariants as k
use Rattle.rv_lex.specs.Lexes.{Lexeme}
use Rattle.rv_tree.specs.Expressions as t
use Rattle.rv_grammar.specs.Reading.{expect, Parser}
use Rattle.rv_grammar.specs.ExpressionRules.{opening, inside, expression, whole, product_of, sum_of}
use Rattle.rv_grammar.specs.StatementRules.{statement, any_statement}

pub opening_is : (depth : ℕ) (ts : List Lexeme) → 0 < depth → opening depth ts ≡ expect k.LeftParenthesis ts
unfolding opening
opening_is zero ts some = absurd (omega arith)
opening_is (suc n) ts some = refl

pub inside_is : (depth n : ℕ) (ts : List Lexeme) → depth ≡ n + 1 → inside depth ts ≡ expression n ts
unfolding inside
inside_is zero n ts e = absurd (omega arith)
inside_is (suc m) n ts e = let same : m ≡ n = omega arith in rw same refl

pub expression_is : (depth : ℕ) (ts : List Lexeme) → expression depth ts ≡ whole (opening depth) (inside depth) ts
unfolding expression inside
expression_is zero ts = refl
expression_is (suc n) ts = refl

pub statement_is : (depth : ℕ) (ts : List Lexeme) → 0 < depth → statement depth ts ≡ any_statement (statement (depth - 1)) ts
unfolding statement
statement_is zero ts some = absurd (omega arith)
statement_is (suc n) ts some = let same : suc n - 1 ≡ n = omega arith in rw same refl

pub product_is : (opens : Parser ℕ) (inner : Parser t.Expression) (e : t.Expression) (fs : List t.Factor) → (length fs ≡ 0 → ⊥) → product_of opens inner e fs ≡ t.product e (t.factors_of fs)
product_is opens inner e [] some = absurd (some refl)
product_is opens inner e (f ∷ fs) some = refl

pub sum_is : (opens : Parser ℕ) (inner : Parser t.Expression) (e : t.Expression) (ss : List t.Term) → (length ss ≡ 0 → ⊥) → sum_of opens inner e ss ≡ t.sum e (t.terms_of ss)
sum_is opens inner e [] some = absurd (some refl)
sum_is opens inner e (s ∷ ss) some = refl
