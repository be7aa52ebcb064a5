use Rattle.std.proofs.Common.{◌≡◌, drop}
use Rattle.rv_code.specs.ExpressionView.{expressions_view, links_view}
use Rattle.rv_fits.specs.Calls.{expressions_call, links_call}
use Rattle.rv_fits.specs.Passing.{passes}
use Rattle.rv_fits.proofs.expression.+expression.Given as goal

abbrev pub invariant-expressions_fit-loop-e : goal.invariant-expressions_fit-loop-e
invariant-expressions_fit-loop-e l =
    expressions_call (passes l.test) (expressions_view (drop l.e-index l.e-items))
    ≡ expressions_call (passes l.test) (expressions_view l.e-items)

abbrev pub invariant-links_fit-loop-link : goal.invariant-links_fit-loop-link
invariant-links_fit-loop-link l =
    links_call (passes l.test) (links_view (drop l.link-index l.link-items))
    ≡ links_call (passes l.test) (links_view l.link-items)
