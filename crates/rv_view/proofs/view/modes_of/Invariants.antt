use Rattle.std.proofs.Common.{◌≡◌, map}
use Rattle.std.specs.List.{range_with_len}
use Rattle.rv_event.specs.Past.{mode}
use Rattle.rv_shape.specs.Catalogue.{first_task}
use Rattle.rv_view.proofs.view.modes_of.Given as goal

abbrev pub invariant-loop-number : goal.invariant-loop-number
invariant-loop-number l = l.modes.items ≡ map (λ actor. mode l.host.shapes actor l.host.past) (range_with_len first_task l.number)
