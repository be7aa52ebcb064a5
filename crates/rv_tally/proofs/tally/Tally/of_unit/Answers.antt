use Rattle.std.proofs.Common.{◌≡◌, ◌+◌, ◌∙◌, sym, arith, length}
use Rattle.rv_shape.specs.Catalogue.{all_tasks}
use Rattle.rv_tally.proofs.Tallies.{all_before, none_before, sum_more}
use Rattle.rv_tally.proofs.tally.Tally.of_unit.Goals as goal

pub loop-actor-init : goal.loop-actor-init
loop-actor-init c = λ entries few t. sym (none_before c.args.catalogue.now c.args.unit.now entries)

pub loop-actor-preserved : goal.loop-actor-preserved
loop-actor-preserved c = λ entries few t.
    c.saturating_add-sum.ensures
    ∙ sum_more c.args.catalogue.now c.args.unit.now c.loop-actor.actor c.loop-actor.sum c.of_task.result entries few
    (c.loop-actor.invariant entries few t) (c.of_task.ensures entries t)

pub returns : goal.returns
returns c = λ entries few t.
    let last : c.loop-actor.actor ≡ 11 + length (all_tasks c.args.catalogue.now) =
    omega (arith, c.loop-actor-test.false, c.loop-actor.auto.actor-end, c.tasks-tasks.ensures.count) in
    c.loop-actor.invariant entries few t ∙ all_before c.args.catalogue.now c.args.unit.now c.loop-actor.actor entries last
