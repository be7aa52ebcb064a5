use Rattle.std.proofs.Common.{refl}
use Rattle.rv_flat.specs.FlatView.{body_in}
use Rattle.rv_flat.specs.Tables.{trees}
use Rattle.rv_machine.specs.Stacks.{below}
use Rattle.rv_machine.proofs.Steps.{end_on}
use Rattle.rv_machine.proofs.CallSteps.{enter_overruns, enter_bodiless, enter_begins}
use Rattle.rv_machine.proofs.machine.Machine.begin.Goals as goal

pub returns-then-setting-eq0-clause-moves : goal.returns-then-setting-eq0-clause-moves
returns-then-setting-eq0-clause-moves c = λ apart. enter_overruns c.args.unit.now c.args.setting c.args.number c.args.values c.args.components c.args.steps (below c.args.unit.now c.args.self.now.stack) c.if-setting-eq0.true

pub returns-in-None-clause-moves : goal.returns-in-None-clause-moves
returns-in-None-clause-moves c = λ apart. enter_bodiless c.args.unit.now c.args.setting c.args.number c.args.values c.args.components c.args.steps (below c.args.unit.now c.args.self.now.stack) c.if-setting-eq0.false (c.in-None.ensures.none refl)

pub returns-in-Some-clause-moves : goal.returns-in-Some-clause-moves
returns-in-Some-clause-moves c = λ apart.
    enter_begins c.args.unit.now c.args.setting c.inner-self.result c.args.number c.args.values c.args.components c.args.steps c.begun-self.result (body_in (trees c.args.unit.now.code) c.in-Some.body.now)
    (below c.args.unit.now c.args.self.now.stack) (below c.args.unit.now c.push_end.new.self) (below c.args.unit.now c.push_end-in-Some.new.self)
    c.if-setting-eq0.false c.in-Some.ensures.found c.begun-self.ensures c.inner-self.ensures
    (end_on c.args.unit.now c.args.self.now.stack c.push_end.new.self _ c.push_end.ensures.frames c.push_end.ensures.activations)
    (end_on c.args.unit.now c.push_end.new.self c.push_end-in-Some.new.self _ c.push_end-in-Some.ensures.frames c.push_end-in-Some.ensures.activations)
    apart
