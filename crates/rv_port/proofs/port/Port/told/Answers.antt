use Rattle.std.proofs.Common.{subst}
use Rattle.rv_turn.specs.Histories.{StartsWith}
use Rattle.rv_turn.specs.Passes.{Noted}
use Rattle.rv_turn.specs.Prefixes.{starts_both}
use Rattle.rv_behind.specs.declared.event.Event.{Event}
use Rattle.rv_port.proofs.Fitting.{meet_fits}
use Rattle.rv_port.proofs.Actors.{meet_handles}
use Rattle.rv_port.proofs.Asked.{met_explained}
use Rattle.rv_port.proofs.Holding.{counts_met}
use Rattle.rv_port.proofs.Later.{no_earlier}
use Rattle.rv_port.proofs.port.Port.told.Goals as goal

pub invariant_of-self-inside-clause-handles : goal.invariant_of-self-inside-clause-handles
invariant_of-self-inside-clause-handles c = meet_handles c.self.inside.asker.pass c.meet.new.self _ c.self.inside.asker.handles c.meet.ensures.meets

pub returns-clause-judged : goal.returns-clause-judged
returns-clause-judged c = let told : StartsWith c.meet.new.self.seen c.args.note.seen = subst (λ (z : Noted Event). StartsWith c.meet.new.self.seen z.seen) c.note.view_is c.meet.ensures.meets.told in
    λ at later. no_earlier c.args.note.seen at (starts_both c.args.note.seen c.meet.new.self.seen at told later)

pub invariant_of-self-inside-clause-fits : goal.invariant_of-self-inside-clause-fits
invariant_of-self-inside-clause-fits c = meet_fits c.self.inside.asker.pass c.meet.new.self _ c.self.inside.asker.fits c.note.invariant c.meet.ensures.meets

pub invariant_of-self-inside-clause-counts : goal.invariant_of-self-inside-clause-counts
invariant_of-self-inside-clause-counts c = counts_met c.self.inside.asker.pass c.meet.new.self _ c.self.inside.asker.held c.meet.ensures.meets c.self.inside.asker.owns c.self.inside.asker.counts

pub invariant_of-self : goal.invariant_of-self
invariant_of-self c = λ is. met_explained c.self.inside.asker.pass c.meet.new.self _ c.meet.ensures.meets c.self.inside.asker.owns (c.self.invariant is)
