use Rattle.std.proofs.Common.{◌∙◌, ap, map, sym}
use Rattle.rv_code.specs.Bodies.{UnitBodies}
use Rattle.rv_code.specs.BodyView.{body_view}
use Rattle.rv_types.specs.BodiesOf.{objects_compiled}
use Rattle.rv_types.proofs.protected.share.Goals as goal

pub returns : goal.returns
returns c =
    let same = map body_view c.args.same.items in
    ap (λ (u : UnitBodies). objects_compiled same c.args.number 0 c.args.objects.now u) (sym c.in_ok-list.ensures.view)
    ∙ c.in_ok-give_all.ensures same c.in_ok-list.ensures.list
