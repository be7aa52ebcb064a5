use Rattle.std.proofs.Common.{◌≡◌, drop}
use Rattle.rv_tree.specs.Statements.{statements_of, elsif_parts_of, alternatives_of}
use Rattle.rv_tree.specs.StatementView.{statements_view, elsif_parts_view, alternatives_view}
use Rattle.rv_seen.specs.At.{at_statements, at_parts, at_alternatives}
use Rattle.rv_seen.proofs.statements.+statement.Given as goal

abbrev pub invariant-statements-loop-index : goal.invariant-statements-loop-index
invariant-statements-loop-index l = (l.scope ≡ l.initial.scope)
    × (at_statements l.place (statements_of (statements_view (drop l.index l.list.items))) l.initial.scope ≡ at_statements l.place (statements_of (statements_view l.list.items)) l.initial.scope)

abbrev pub invariant-parts-loop-index : goal.invariant-parts-loop-index
invariant-parts-loop-index l = (l.scope ≡ l.initial.scope)
    × (at_parts l.place (elsif_parts_of (elsif_parts_view (drop l.index l.list.items))) l.initial.scope ≡ at_parts l.place (elsif_parts_of (elsif_parts_view l.list.items)) l.initial.scope)

abbrev pub invariant-alternatives-loop-index : goal.invariant-alternatives-loop-index
invariant-alternatives-loop-index l = (l.scope ≡ l.initial.scope)
    × (at_alternatives l.place (alternatives_of (alternatives_view (drop l.index l.list.items))) l.initial.scope ≡ at_alternatives l.place (alternatives_of (alternatives_view l.list.items)) l.initial.scope)
