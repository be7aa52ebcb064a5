use Rattle.std.proofs.Common.{◌∙◌, ap, refl, arith, ℤ, List, Ok}
use Rattle.rv_exec.specs.declared.setting.Setting.{Setting}
use Rattle.rv_exec.specs.Tasks.{task_setting}
use Rattle.rv_flat.specs.FlatUnits.{flat_view}
use Rattle.rv_flat.specs.FlatView.{body_in}
use Rattle.rv_flat.specs.Tables.{trees}
use Rattle.rv_machine.specs.Points.{control}
use Rattle.rv_machine.specs.Stacks.{below}
use Rattle.rv_machine.specs.declared.point.Point.TheVariants as point
use Rattle.rv_machine.specs.declared.point.Step.TheVariants as step
use Rattle.rv_frames.specs.Frames.{meant, quits_of}
use Rattle.rv_machine.proofs.Steps.{end_on}
use Rattle.rv_machine.proofs.Fitting.{room_for, fits_from, task_low, task_alone_low}
use Rattle.rv_machine.proofs.Starts.{nothing_waits, task_starts, task_alone}
use Rattle.rv_machine.proofs.machine.Machine.start_task.Goals as goal

pub returns-in-Some-clause-stands : goal.returns-in-Some-clause-stands
returns-in-Some-clause-stands c =
    ap (λ (s : Setting). meant (flat_view c.args.unit.now) (control (trees c.args.unit.now.code) (point.At (step.Declares c.in-Some.body.now.declarations)) c.of_budget-activation.result) (below c.args.unit.now c.push_end-in-Some.new.self) s) c.of_task.ensures
    ∙ task_starts c.args.unit.now c.args.actor c.args.requests (body_in (trees c.args.unit.now.code) c.in-Some.body.now) c.of_budget-activation.result (below c.args.unit.now c.args.stack) (below c.args.unit.now c.push_end.new.self) (below c.args.unit.now c.push_end-in-Some.new.self)
    c.in-Some.ensures.found c.of_budget-activation.ensures (nothing_waits c.args.unit.now c.args.stack c.requires.empty c.requires.alone)
    (end_on c.args.unit.now c.args.stack c.push_end.new.self _ c.push_end.ensures.frames c.push_end.ensures.activations)
    (end_on c.args.unit.now c.push_end.new.self c.push_end-in-Some.new.self _ c.push_end-in-Some.ensures.frames c.push_end-in-Some.ensures.activations)

pub returns-in-None-clause-stands : goal.returns-in-None-clause-stands
returns-in-None-clause-stands c =
    ap (λ (s : Setting). meant (flat_view c.args.unit.now) (control (trees c.args.unit.now.code) (point.Quits (Ok c.new.result)) c.of_budget-activation.result) (below c.args.unit.now c.args.stack) s) c.of_task-in-None.ensures
    ∙ (ap (λ (vs : List ℤ). meant (flat_view c.args.unit.now) (quits_of (Ok vs)) (below c.args.unit.now c.args.stack) task_setting) c.new.ensures
    ∙ task_alone c.args.unit.now c.args.actor c.args.requests (below c.args.unit.now c.args.stack) (c.in-None.ensures.none refl) (nothing_waits c.args.unit.now c.args.stack c.requires.empty c.requires.alone))

pub push_end-requires : goal.push_end-requires
push_end-requires c = let room = room_for c.args.unit.now c.args.stack c.requires in omega (arith, room)

pub push_end-requires-in-Some : goal.push_end-requires-in-Some
push_end-requires-in-Some c =
    let room = room_for c.args.unit.now c.args.stack c.requires in
    let longer = c.push_end.ensures.longer in
    let same = c.push_end.ensures.capacity in
    omega (arith, room, longer, same)

pub returns-in-Some-clause-fits : goal.returns-in-Some-clause-fits
returns-in-Some-clause-fits c =
    fits_from c.args.unit.now c.args.stack (record { point = point.At (step.Declares c.in-Some.body.now.declarations); activation = c.of_budget-activation.result; setting = c.of_task.result; stack = c.push_end-in-Some.new.self }) c.requires
    (c.push_end-in-Some.ensures.kept ∙ c.push_end.ensures.kept)
    (task_low c.args.unit.now c.args.actor (body_in (trees c.args.unit.now.code) c.in-Some.body.now) c.of_budget-activation.result c.of_task.result (below c.args.unit.now c.args.stack) (below c.args.unit.now c.push_end.new.self) (below c.args.unit.now c.push_end-in-Some.new.self)
    c.in-Some.ensures.found c.of_task.ensures (nothing_waits c.args.unit.now c.args.stack c.requires.empty c.requires.alone)
    (end_on c.args.unit.now c.args.stack c.push_end.new.self _ c.push_end.ensures.frames c.push_end.ensures.activations)
    (end_on c.args.unit.now c.push_end.new.self c.push_end-in-Some.new.self _ c.push_end-in-Some.ensures.frames c.push_end-in-Some.ensures.activations))

pub returns-in-None-clause-fits : goal.returns-in-None-clause-fits
returns-in-None-clause-fits c =
    fits_from c.args.unit.now c.args.stack (record { point = point.Quits (Ok c.new.result); activation = c.of_budget-activation.result; setting = c.of_task-in-None.result; stack = c.args.stack }) c.requires refl
    (task_alone_low c.args.unit.now c.of_task-in-None.result c.new.result (below c.args.unit.now c.args.stack) (nothing_waits c.args.unit.now c.args.stack c.requires.empty c.requires.alone))
