use Rattle.std.proofs.Common.{◌≡◌, drop}
use Rattle.rv_tree.specs.Statements.{statements_of, elsif_parts_of, alternatives_of, selectives_of}
use Rattle.rv_tree.specs.StatementView.{statements_view, elsif_parts_view, alternatives_view, selectives_view}
use Rattle.rv_restrict.specs.Found.{earlier}
use Rattle.rv_restrict.specs.StatementWalk.{statements_noted, elsif_parts_noted, alternatives_noted, selectives_noted}
use Rattle.rv_restrict.proofs.statement.+statement.Given as goal

abbrev pub invariant-statements-loop-one : goal.invariant-statements-loop-one
invariant-statements-loop-one l =
    statements_noted earlier (statements_of (statements_view (drop l.one-index l.one-items))) l.first
    ≡ statements_noted earlier (statements_of (statements_view l.one-items)) l.initial.first

abbrev pub invariant-elsif_parts-loop-part : goal.invariant-elsif_parts-loop-part
invariant-elsif_parts-loop-part l =
    elsif_parts_noted earlier (elsif_parts_of (elsif_parts_view (drop l.part-index l.part-items))) l.first
    ≡ elsif_parts_noted earlier (elsif_parts_of (elsif_parts_view l.part-items)) l.initial.first

abbrev pub invariant-alternatives-loop-alternative : goal.invariant-alternatives-loop-alternative
invariant-alternatives-loop-alternative l =
    alternatives_noted earlier (alternatives_of (alternatives_view (drop l.alternative-index l.alternative-items))) l.first
    ≡ alternatives_noted earlier (alternatives_of (alternatives_view l.alternative-items)) l.initial.first

abbrev pub invariant-selectives-loop-alternative : goal.invariant-selectives-loop-alternative
invariant-selectives-loop-alternative l =
    selectives_noted earlier (selectives_of (selectives_view (drop l.alternative-index l.alternative-items))) l.first
    ≡ selectives_noted earlier (selectives_of (selectives_view l.alternative-items)) l.initial.first
