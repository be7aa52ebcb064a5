use Rattle.std.proofs.Common.{◌≡◌, drop}
use Rattle.rv_code.specs.StatementView.{statements_view, branches_view, alternatives_view}
use Rattle.rv_ranged.specs.Ranged.{statements_ranged, branches_ranged, alternatives_ranged}
use Rattle.rv_ranged.proofs.statement.+statement.Given as goal

abbrev pub invariant-statements_ranged-loop-s : goal.invariant-statements_ranged-loop-s
invariant-statements_ranged-loop-s l =
    statements_ranged l.units l.stand (statements_view (drop l.s-index l.s-items))
    ≡ statements_ranged l.units l.stand (statements_view l.s-items)

abbrev pub invariant-branches_ranged-loop-branch : goal.invariant-branches_ranged-loop-branch
invariant-branches_ranged-loop-branch l =
    branches_ranged l.units l.stand (branches_view (drop l.branch-index l.branch-items))
    ≡ branches_ranged l.units l.stand (branches_view l.branch-items)

abbrev pub invariant-alternatives_ranged-loop-alternative : goal.invariant-alternatives_ranged-loop-alternative
invariant-alternatives_ranged-loop-alternative l =
    alternatives_ranged l.units l.stand (alternatives_view (drop l.alternative-index l.alternative-items))
    ≡ alternatives_ranged l.units l.stand (alternatives_view l.alternative-items)
