use Rattle.std.proofs.Common.{◌≡◌, List, inl, inr, refl, subst, MatchResult, Option, None}
use Rattle.rv_code.specs.BodyView.{unit_view}
use Rattle.rv_port.specs.Controls.{LoadTold, no_bodies_of}
use Rattle.rv_shape.specs.Shape.{Shape}
use Rattle.rv_turn.specs.Passes.{IsWorn}
use Rattle.rv_fault.specs.Devices.{RefusesDevice, device_fault}
use Rattle.rv_run.proofs.devices.load_device.Goals as goal

pub returns-in-Ok : goal.returns-in-Ok
returns-in-Ok g c = inl (
  subst (λ (shapes : List Shape). device_fault shapes c.args.device.now ≡ None) c.catalogue.ensures c.in-Ok.ensures.fits,
  (
    c.load_shape-answer.result,
    subst (λ (shape : Shape). MatchResult c.load_shape-answer.result
        (λ r. LoadTold c.args.control.now shape (λ u. unit_view u ≡ no_bodies_of shape) r c.load_shape-answer.new.self)
        (λ x. IsWorn c.args.control.now c.load_shape-answer.new.self)) c.in-Ok.ensures.ok c.load_shape-answer.ensures,
    c.keep.ensures,
  ),
)

pub returns-in-Err : goal.returns-in-Err
returns-in-Err g c = inr (
  c.in-Err.failure,
  subst (λ (shapes : List Shape). RefusesDevice c.args.line shapes c.args.device.now c.in-Err.failure) c.catalogue.ensures c.in-Err.ensures.err,
  (refl, refl),
)
