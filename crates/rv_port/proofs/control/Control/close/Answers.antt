use Rattle.std.proofs.Common.{◌≡◌, map, ap, sym, ◌∙◌, subst}
use Rattle.atomic_table.specs.Seated.{TableId}
use Rattle.rv_turn.specs.Histories.{Each}
use Rattle.rv_turn.specs.Passes.{Noted}
use Rattle.std.specs.Arc.{arc_value}
use Rattle.rv_exec.specs.Bodies.{units_of}
use Rattle.rv_history.specs.History.{History}
use Rattle.rv_history.specs.Legal.{Legal}
use Rattle.rv_port.specs.Closing.{HasMet, IsClosed}
use Rattle.rv_behind.specs.declared.event.Event.{Event}
use Rattle.rv_port.specs.Traces.{Passing}
use Rattle.rv_port.specs.Ports.{pass_of}
use Rattle.rv_port.proofs.Closings.{each_pass, others, closed}
use Rattle.rv_port.proofs.control.Control.close.Goals as goal

-- the notes are of the pass's turn
pub meet_all-requires : goal.meet_all-requires
meet_all-requires g c =
    subst (λ (t : TableId). Each (λ (n : Noted Event). n.turn ≡ t) c.args.notes.items) (sym (ap (λ (k : Passing). k.turn) c.self.view_is)) c.requires.notes

pub close-behind-requires-clause-first : goal.close-behind-requires-clause-first
close-behind-requires-clause-first g c = let same = c.into_pass-first.ensures ∙ c.meet_all.ensures.same in
    (ap (λ (k : Passing). k.first) same ∙ c.self.invariant.first, ap (λ (k : Passing). k.turn) same ∙ c.self.invariant.here)

pub close-behind-requires-clause-others : goal.close-behind-requires-clause-others
close-behind-requires-clause-others g c =
    others c.self.inside.turn (map pass_of c.args.finished.items) c.take_passes.new.passes.items c.take_passes.ensures.passes c.take_passes.ensures.given
    (subst (λ (t : TableId). Each (λ (p : Passing). p.turn ≡ t) (map pass_of c.args.finished.items)) (sym (ap (λ (k : Passing). k.turn) c.self.view_is) ∙ c.self.invariant.here) (each_pass c.args.self.turn c.args.finished.items c.requires.finished))

pub returns-clause-ok : goal.returns-clause-ok
returns-clause-ok g c = let b = c.close-behind.result in let h = b.host.value in let us = units_of (arc_value b.bodies).bodies in let same : c.into_host-host.result ≡ h = c.into_host-host.ensures in
    subst (λ (z : History). IsClosed c.args.self (map pass_of c.args.finished.items) c.args.notes.items z) (sym same)
    (closed c.args.self c.into_pass-first.result (map pass_of c.args.finished.items) c.take_passes.new.passes.items c.args.notes.items h us (subst Legal same c.replays.ensures.legal) b.brought.count c.take_passes.ensures.passes
    c.take_passes.ensures.given (subst (λ (w : Passing). HasMet c.args.self c.args.notes.items w) (sym c.into_pass-first.ensures) (subst (λ (v : Passing). HasMet v c.args.notes.items c.meet_all.new.pass) c.self.view_is c.meet_all.ensures))
    c.close-behind.ensures.first c.close-behind.ensures.others c.close-behind.ensures.strangers c.close-behind.ensures.about c.close-behind.ensures.limits)
