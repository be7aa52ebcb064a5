use Rattle.std.proofs.Common.{◌≡◌, ◌++◌, drop}
use Rattle.rv_code.specs.StatementView.{statements_view, branches_view, alternatives_view}
use Rattle.rv_never.specs.Written.{of_alternatives, of_branches, of_statements}
use Rattle.rv_never.proofs.statements.+statement.Given as goal

-- what is there, and then what the others call
abbrev pub invariant-add_statements-loop-s : goal.invariant-add_statements-loop-s
invariant-add_statements-loop-s l =
    l.calls.items ++ of_statements (statements_view (drop l.s-index l.s-items))
    ≡ l.initial.calls.items ++ of_statements (statements_view l.s-items)

abbrev pub invariant-add_branches-loop-branch : goal.invariant-add_branches-loop-branch
invariant-add_branches-loop-branch l =
    l.calls.items ++ of_branches (branches_view (drop l.branch-index l.branch-items))
    ≡ l.initial.calls.items ++ of_branches (branches_view l.branch-items)

abbrev pub invariant-add_alternatives-loop-alternative : goal.invariant-add_alternatives-loop-alternative
invariant-add_alternatives-loop-alternative l =
    l.calls.items ++ of_alternatives (alternatives_view (drop l.alternative-index l.alternative-items))
    ≡ l.initial.calls.items ++ of_alternatives (alternatives_view l.alternative-items)
