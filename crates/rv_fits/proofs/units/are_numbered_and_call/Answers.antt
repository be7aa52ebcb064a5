use Rattle.std.proofs.Common.{◌≡◌, ◌&&◌, ◌+◌, ◌∙◌, Bool, true, ap, sym}
use Rattle.rv_code.specs.BodyView.{unit_view}
use Rattle.rv_fits.specs.Calls.{calls_from}
use Rattle.rv_fits.specs.Fits.{callee_fits, numbered_as, unit_calls_fit}
use Rattle.rv_fits.proofs.units.are_numbered_and_call.Goals as goal

pub returns-then-is_numbered_as : goal.returns-then-is_numbered_as
returns-then-is_numbered_as c =
    let bodies = unit_view c.args.bodies.now in
    let numbered : numbered_as c.args.shape.now bodies ≡ true = sym c.is_numbered_as.ensures ∙ c.if-is_numbered_as.true in
    c.calls_fit.ensures
    ∙ ((λ i. calls_from (callee_fits (c.new-units.ensures i)) (c.objects.ensures.count i + 1) bodies)
    ∙ sym (ap (λ (b : Bool). b && unit_calls_fit c.args.catalogue.now c.args.shape.now bodies) numbered))
