use Rattle.std.proofs.Common.{◌≡◌, drop}
use Rattle.rv_tree.specs.Statements.{statements_of, elsif_parts_of, alternatives_of}
use Rattle.rv_tree.specs.StatementView.{statements_view, elsif_parts_view, alternatives_view}
use Rattle.rv_names.specs.Jumps.{are_placed, parts_are_placed, alternatives_are_placed}
use Rattle.rv_names.proofs.jumps.+statement.Given as goal

abbrev pub invariant-statements_fault-loop-one : goal.invariant-statements_fault-loop-one
invariant-statements_fault-loop-one l =
    are_placed l.in_loop l.in_handler (statements_of (statements_view (drop l.one-index l.one-items)))
    ≡ are_placed l.in_loop l.in_handler (statements_of (statements_view l.one-items))

abbrev pub invariant-elsif_parts_fault-loop-part : goal.invariant-elsif_parts_fault-loop-part
invariant-elsif_parts_fault-loop-part l =
    parts_are_placed l.in_loop l.in_handler (elsif_parts_of (elsif_parts_view (drop l.part-index l.part-items)))
    ≡ parts_are_placed l.in_loop l.in_handler (elsif_parts_of (elsif_parts_view l.part-items))

abbrev pub invariant-alternatives_fault-loop-alternative : goal.invariant-alternatives_fault-loop-alternative
invariant-alternatives_fault-loop-alternative l =
    alternatives_are_placed l.in_loop l.in_handler (alternatives_of (alternatives_view (drop l.alternative-index l.alternative-items)))
    ≡ alternatives_are_placed l.in_loop l.in_handler (alternatives_of (alternatives_view l.alternative-items))
