use Rattle.std.proofs.Common.{◌≡◌, drop}
use Rattle.rv_tree.specs.Statements.{statements_of, elsif_parts_of, alternatives_of, selectives_of}
use Rattle.rv_tree.specs.StatementView.{statements_view, elsif_parts_view, alternatives_view, selectives_view}
use Rattle.rv_tree.specs.StatementPrint.{statements_onto, elsif_parts_onto, alternatives_onto, more_selectives_onto}
use Rattle.rv_tree.proofs.print_statement.+print_statement.Given as goal

abbrev pub invariant-print_statements-loop-statement : goal.invariant-print_statements-loop-statement
invariant-print_statements-loop-statement l =
    statements_onto (statements_of (statements_view (drop l.statement-index l.statement-items))) l.out
    ≡ statements_onto (statements_of (statements_view l.statement-items)) l.initial.out

abbrev pub invariant-print_elsif_parts-loop-part : goal.invariant-print_elsif_parts-loop-part
invariant-print_elsif_parts-loop-part l =
    elsif_parts_onto (elsif_parts_of (elsif_parts_view (drop l.part-index l.part-items))) l.out
    ≡ elsif_parts_onto (elsif_parts_of (elsif_parts_view l.part-items)) l.initial.out

abbrev pub invariant-print_alternatives-loop-alternative : goal.invariant-print_alternatives-loop-alternative
invariant-print_alternatives-loop-alternative l =
    alternatives_onto (alternatives_of (alternatives_view (drop l.alternative-index l.alternative-items))) l.out
    ≡ alternatives_onto (alternatives_of (alternatives_view l.alternative-items)) l.initial.out

abbrev pub invariant-print_selectives-loop-alternative : goal.invariant-print_selectives-loop-alternative
invariant-print_selectives-loop-alternative l =
    more_selectives_onto (selectives_of (selectives_view (drop l.alternative-index l.more))) l.out
    ≡ more_selectives_onto (selectives_of (selectives_view l.more)) l.initial.out
