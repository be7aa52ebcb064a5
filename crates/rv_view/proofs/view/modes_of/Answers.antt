use Rattle.std.proofs.Common.{◌+◌, refl}
use Rattle.rv_event.specs.Past.{mode}
use Rattle.rv_shape.specs.Catalogue.{first_task}
use Rattle.rv_view.proofs.Showing.{pushed_more, told_mode}
use Rattle.rv_view.proofs.view.modes_of.Goals as goal

pub loop-number-preserved : goal.loop-number-preserved
loop-number-preserved c =
    pushed_more (λ actor. mode c.args.host.now.shapes actor c.args.host.now.past) first_task c.loop-number.number (first_task + c.loop-number.number) _ _ _ refl
    c.in_ok-push.ensures.items c.loop-number.invariant (told_mode _ _ _ _ c.in-Some.is c.mode.ensures)
