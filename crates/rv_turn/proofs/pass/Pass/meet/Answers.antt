use Rattle.std.proofs.Common.{ap, ◌∙◌, subst}
use Rattle.rv_turn.specs.Passes.{Meets, Known, Noted, known_of}
use Rattle.rv_turn.proofs.Meeting.{heeded_pass, heeded_meets}
use Rattle.rv_turn.proofs.pass.Pass.meet.Goals as goal

pub invariant_of-self : goal.invariant_of-self
invariant_of-self g c =
    heeded_pass g.C.Counted.history g.C.Counted.about g.C.Counted.actor_of _ _ _ _ _ _ c.note.inside.place.me.0 _ _ c.self.invariant c.join_note.ensures.told c.heed.ensures.heard (c.heed.ensures.same ∙ c.join_note.ensures.same)

pub returns : goal.returns
returns g c = record {
  meets = subst (λ (z : Known _ _). Meets g.C.Counted.actor_of z c.args.note.seen (known_of c.heed.new.place.table_id c.heed.new.place.me.0 c.self.inside.acts)) c.self.view_is
      (heeded_meets g.C.Counted.history g.C.Counted.about g.C.Counted.actor_of _ _ _ _ _ _ c.note.inside.place.me.0 _ _ c.self.invariant c.join_note.ensures.told c.heed.ensures.heard c.args.note.seen (ap (λ (z : Noted _). z.seen) c.note.view_is) (c.heed.ensures.same ∙ c.join_note.ensures.same));
}
