-- Statements that are printed behind a word, where there are some.
use Rattle.std.proofs.Common.{◌≡◌, ℕ, ◌<◌, List, [], ◌∷◌, length, refl, arith, Option}
use Rattle.rv_lex.specs.declared.kind.Kind.TheVariants as k
use Rattle.rv_tree.specs.Names.{Identifier}
use Rattle.rv_tree.specs.NamePrint.{identifier_onto}
use Rattle.rv_tree.specs.Onto.{kind_onto, maybe_onto}
use Rattle.rv_tree.specs.Statements.{statements_of}
use Rattle.rv_tree.specs.StatementView.{statements_view}
use Rattle.rv_tree.specs.StatementPrint.{statements_onto, else_onto, accept_body_onto, then_abort_onto}
use Rattle.rv_tree.specs.declared.statement.Statement.{Statement}

pub else_some : (ss : List Statement) (out : List ℕ) → 0 < length ss
    → statements_onto (statements_of (statements_view ss)) (kind_onto k.Else out) ≡ else_onto (statements_of (statements_view ss)) out
else_some [] out some = absurd (omega arith)
else_some (s ∷ ss) out some = refl

pub accept_some : (ss : List Statement) (end_name : Option Identifier) (out : List ℕ) → 0 < length ss
    → maybe_onto identifier_onto end_name (kind_onto k.End (statements_onto (statements_of (statements_view ss)) (kind_onto k.Do out)))
    ≡ accept_body_onto (statements_of (statements_view ss)) end_name out
accept_some [] end_name out some = absurd (omega arith)
accept_some (s ∷ ss) end_name out some = refl

pub abort_some : (ss : List Statement) (out : List ℕ) → 0 < length ss
    → statements_onto (statements_of (statements_view ss)) (kind_onto k.Abort (kind_onto k.Then out)) ≡ then_abort_onto (statements_of (statements_view ss)) out
abort_some [] out some = absurd (omega arith)
abort_some (s ∷ ss) out some = refl
