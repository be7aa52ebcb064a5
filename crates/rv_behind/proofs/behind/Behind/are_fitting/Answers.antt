use Rattle.std.proofs.Common.{◌≡◌, List, ap, ◌∙◌, subst, rules}
use Rattle.std.specs.Arc.{arc_value}
use Rattle.rv_shape.specs.Shape.{Shape}
use Rattle.rv_code.specs.BodyView.{unit_view}
use Rattle.rv_fits.specs.Fits.{are_of}
use Rattle.rv_history.specs.Legal.{Legal}
use Rattle.rv_behind.proofs.Doing.{fits_found}
use Rattle.rv_behind.proofs.behind.Behind.are_fitting.Goals as goal

pub returns-in-Some : goal.returns-in-Some
returns-in-Some c = let s = c.args.self.now in
    let shapes : c.catalogue.result.now ≡ s.host.value.shapes = search rules in
    fits_found s.host.value (arc_value s.bodies).bodies c.args.shape.now c.args.unit.now _ (subst Legal c.deref-host.ensures c.replays.ensures.legal)
    (c.in-Some.ensures ∙ ap (λ (z : List Shape). are_of z c.args.shape.now (unit_view c.args.unit.now)) shapes)
