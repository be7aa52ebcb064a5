use Rattle.std.proofs.Common.{◌≡◌, drop}
use Rattle.rv_code.specs.StatementView.{statements_view, branches_view, alternatives_view}
use Rattle.rv_fits.specs.Calls.{statements_call, branches_call, alternatives_call}
use Rattle.rv_fits.specs.Passing.{passes}
use Rattle.rv_fits.proofs.statement.+statement.Given as goal

abbrev pub invariant-statements_fit-loop-s : goal.invariant-statements_fit-loop-s
invariant-statements_fit-loop-s l =
    statements_call (passes l.test) (statements_view (drop l.s-index l.s-items))
    ≡ statements_call (passes l.test) (statements_view l.s-items)

abbrev pub invariant-branches_fit-loop-branch : goal.invariant-branches_fit-loop-branch
invariant-branches_fit-loop-branch l =
    branches_call (passes l.test) (branches_view (drop l.branch-index l.branch-items))
    ≡ branches_call (passes l.test) (branches_view l.branch-items)

abbrev pub invariant-alternatives_fit-loop-alternative : goal.invariant-alternatives_fit-loop-alternative
invariant-alternatives_fit-loop-alternative l =
    alternatives_call (passes l.test) (alternatives_view (drop l.alternative-index l.alternative-items))
    ≡ alternatives_call (passes l.test) (alternatives_view l.alternative-items)
