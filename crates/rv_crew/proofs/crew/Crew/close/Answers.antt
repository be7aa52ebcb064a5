use Rattle.std.proofs.Common.{List, map, refl, ap, subst, ◌∙◌}
use Rattle.rv_turn.specs.Histories.{Each}
use Rattle.rv_port.specs.Ports.{Porting}
use Rattle.rv_crew.specs.Crews.{Keeps, IsClosedBy, actor_of, owed, owed_for}
use Rattle.rv_crew.specs.Teams.{Team}
use Rattle.rv_crew.specs.declared.crew.Closed.{Closed}
use Rattle.rv_crew.proofs.Closes.{closed_by}
use Rattle.rv_crew.proofs.crew.Crew.close.Goals as goal

pub returns-in-Ok-close-clause-ok : goal.returns-in-Ok-close-clause-ok
returns-in-Ok-close-clause-ok g c =
    let crew : Team g.row.D.Denot = record {
      running = map owed c.self.inside.running.items;
      joined = c.self.inside.joined.items;
      paid = map owed_for c.self.inside.paid.items;
      lost = c.self.inside.lost.items;
      noted = c.self.inside.notes.items;
      refuses = c.self.inside.refuses;
      abandoned = c.self.inside.abandoned;
    } in
    let closed : Closed = record { host = c.in-Ok-close.host; finished = c.in-Ok.finished; lost = c.self.inside.lost; abandoned = c.self.inside.abandoned } in
    subst (λ (z : Team g.row.D.Denot). IsClosedBy g.D.Duty.does z c.args.control closed) c.self.view_is
    (closed_by g.D.Duty.does crew c.args.control closed (subst (λ (l : List Porting). Each (λ p. Keeps p) l) c.as_slice.ensures.value c.keep_all.ensures) c.self.invariant c.in-Ok-close.ensures.ok
    (c.in-Ok.ensures ∙ ap (map actor_of) c.as_slice-2.ensures.value) refl refl)
