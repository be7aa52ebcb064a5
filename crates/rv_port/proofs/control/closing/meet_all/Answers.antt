use Rattle.std.proofs.Common.{rules, subst}
use Rattle.rv_turn.specs.Passes.{Meets, Noted}
use Rattle.rv_behind.specs.Events.{by}
use Rattle.rv_behind.specs.declared.event.Event.{Event}
use Rattle.rv_port.proofs.Closings.{one_met, all_met}
use Rattle.rv_port.proofs.control.closing.meet_all.Goals as goal

pub loop-told-preserved : goal.loop-told-preserved
loop-told-preserved c =
    one_met c.args.pass.now c.loop-told.pass c.meet.new.self c.args.notes.items c.loop-told.notes.items c.pop.new.self.items c.in-Some.told c.loop-told.invariant (search rules)
    (subst (λ (n : Noted Event). Meets by c.loop-told.pass n.seen c.meet.new.self) c.told.view_is c.meet.ensures.meets)

pub returns : goal.returns
returns c = all_met c.args.pass.now c.loop-told.pass c.args.notes.items c.loop-told.notes.items c.loop-told.invariant (search rules)
