use Rattle.std.proofs.Common.{◌≡◌, drop}
use Rattle.rv_code.specs.ExpressionView.{expressions_view, links_view}
use Rattle.rv_ranged.specs.Ranged.{expressions_ranged, links_ranged}
use Rattle.rv_ranged.proofs.expression.+expression.Given as goal

abbrev pub invariant-expressions_ranged-loop-e : goal.invariant-expressions_ranged-loop-e
invariant-expressions_ranged-loop-e l =
    expressions_ranged l.units l.stand (expressions_view (drop l.e-index l.e-items))
    ≡ expressions_ranged l.units l.stand (expressions_view l.e-items)

abbrev pub invariant-links_ranged-loop-link : goal.invariant-links_ranged-loop-link
invariant-links_ranged-loop-link l =
    links_ranged l.units l.stand (links_view (drop l.link-index l.link-items))
    ≡ links_ranged l.units l.stand (links_view l.link-items)
