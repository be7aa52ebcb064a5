use Rattle.std.specs.Prelude.{string_bytes}
use Rattle.rv_code.specs.BodyView.{unit_view}
use Rattle.rv_never.proofs.Loading.{told_unit}
use Rattle.rv_never.proofs.load.unit_text.Goals as goal

pub returns : goal.returns
returns c =
    told_unit c.args.catalogue.now c.in_ok-after.after c.args.unit.now.shape (unit_view c.args.unit.now.bodies) c.in_ok-unit_calls.field-0 c.args.list.now c.args.clock (λ (s : _). string_bytes s)
    c.units_text.result c.in_ok-unit_calls.ensures c.in_ok-after.ensures c.units_text.ensures
