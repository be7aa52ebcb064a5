use Rattle.std.proofs.Common.{◌≡◌, length, arith, ap, List, get_or}
use Rattle.rv_object.specs.declared.action.Action.{Action}
use Rattle.rv_present.specs.Holdings.{idle}
use Rattle.rv_present.specs.Holdings.{actions_on}
use Rattle.rv_present.proofs.Acting.{few_actions}
use Rattle.rv_present.proofs.bodies.Bodies.begin.Goals as goal

pub begin-requires-2-clause-countable : goal.begin-requires-2-clause-countable
begin-requires-2-clause-countable c =
    let k = c.requires.sound.1 in
    let bs = c.requires.sound.0 in
    let same : length (get_or c.args.self.now.objects c.args.body.object idle).actions ≡ length (actions_on c.args.catalogue.now c.args.body.object bs) = ap (λ (l : List Action). length l) (k.actions c.args.body.object) in
    omega (arith, same, few_actions c.args.catalogue.now c.args.body.object bs, k.count, c.requires.few)
