use Rattle.std.proofs.Common.{◌≡◌, drop}
use Rattle.rv_tree.specs.Statements.{statements_of, elsif_parts_of, alternatives_of}
use Rattle.rv_tree.specs.StatementView.{statements_view, elsif_parts_view, alternatives_view}
use Rattle.rv_scope.specs.Bound.{judged}
use Rattle.rv_scope.specs.StatementUses.{statements_uses, elsif_parts_uses, alternatives_uses}
use Rattle.rv_names.proofs.statement.+statement.Given as goal

abbrev pub invariant-statements-loop-one : goal.invariant-statements-loop-one
invariant-statements-loop-one l = record {
  scope : l.scope ≡ l.initial.scope;
  faults : statements_uses judged l.initial.scope (statements_of (statements_view (drop l.one-index l.one-items))) l.faults
      ≡ statements_uses judged l.initial.scope (statements_of (statements_view l.one-items)) l.initial.faults;
}

abbrev pub invariant-elsif_parts-loop-part : goal.invariant-elsif_parts-loop-part
invariant-elsif_parts-loop-part l = record {
  scope : l.scope ≡ l.initial.scope;
  faults : elsif_parts_uses judged l.initial.scope (elsif_parts_of (elsif_parts_view (drop l.part-index l.part-items))) l.faults
      ≡ elsif_parts_uses judged l.initial.scope (elsif_parts_of (elsif_parts_view l.part-items)) l.initial.faults;
}

abbrev pub invariant-alternatives-loop-alternative : goal.invariant-alternatives-loop-alternative
invariant-alternatives-loop-alternative l = record {
  scope : l.scope ≡ l.initial.scope;
  faults : alternatives_uses judged l.initial.scope (alternatives_of (alternatives_view (drop l.alternative-index l.alternative-items))) l.faults
      ≡ alternatives_uses judged l.initial.scope (alternatives_of (alternatives_view l.alternative-items)) l.initial.faults;
}
