use Rattle.std.proofs.Common.{◌≡◌, drop, map}
use Rattle.rv_tree.specs.Statements.{statements_of, elsif_parts_of, alternatives_of}
use Rattle.rv_tree.specs.StatementView.{statements_view, elsif_parts_view, alternatives_view}
use Rattle.rv_code.specs.StatementView.{statement_view, branch_view, alternative_view}
use Rattle.rv_types.specs.StatementCode.{statements_onto, branches_onto, alternatives_onto}
use Rattle.rv_types.proofs.statement.+statement.Given as goal

abbrev pub invariant-statements-loop-one : goal.invariant-statements-loop-one
invariant-statements-loop-one l = record {
  point : l.point ≡ l.initial.point;
  done : statements_onto l.initial.point (statements_of (statements_view (drop l.one-index l.one-items))) (map statement_view l.done.items)
      ≡ statements_onto l.initial.point (statements_of (statements_view l.one-items)) (map statement_view l.initial.done.items);
}

abbrev pub invariant-branches-loop-part : goal.invariant-branches-loop-part
invariant-branches-loop-part l = record {
  point : l.point ≡ l.initial.point;
  done : branches_onto l.initial.point (elsif_parts_of (elsif_parts_view (drop l.part-index l.part-items))) (map branch_view l.done.items)
      ≡ branches_onto l.initial.point (elsif_parts_of (elsif_parts_view l.part-items)) (map branch_view l.initial.done.items);
}

abbrev pub invariant-alternatives-loop-alternative : goal.invariant-alternatives-loop-alternative
invariant-alternatives-loop-alternative l = record {
  point : l.point ≡ l.initial.point;
  done : alternatives_onto l.initial.point l.range (alternatives_of (alternatives_view (drop l.alternative-index l.alternative-items))) (map alternative_view l.done.items)
      ≡ alternatives_onto l.initial.point l.range (alternatives_of (alternatives_view l.alternative-items)) (map alternative_view l.initial.done.items);
}
