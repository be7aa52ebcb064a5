use Rattle.std.proofs.Common.{◌≡◌, ℕ, suc, length, ap, ◌∙◌, arith}
use Rattle.rv_shape.specs.Catalogue.{all_objects}
use Rattle.rv_picture.specs.Lanes.{lanes_on}
use Rattle.rv_picture.proofs.lane.add_lanes_on.Goals as goal

pub returns : goal.returns
returns c =
    let counted = c.objects-count.ensures.count in
    let all : c.loop-object.object ≡ suc (length (all_objects c.args.catalogue.now)) = omega arith in
    c.loop-object.invariant ∙ ap (λ (n : ℕ). lanes_on c.args.actor c.args.bars.now n c.args.lanes.now.items) all
