use Rattle.std.proofs.Common.{◌≡◌, ◌∙◌, ◌∷◌, List, ℕ, Option, length, ap, subst, sym}
use Rattle.rv_event.specs.Lent.{whole}
use Rattle.rv_event.specs.Past.{queued_by}
use Rattle.rv_event.specs.declared.entry.Body.{Body}
use Rattle.rv_waiting.specs.Limits.{most_places}
use Rattle.rv_waiting.specs.Queues.{AreQueues, CanJoin, joined_by}
use Rattle.rv_waiting.proofs.Queueing.{may_join, may_leave, moved}
use Rattle.rv_waiting.proofs.queues.Queues.note.Goals as goal

pub leave-requires : goal.leave-requires
leave-requires c = λ call is. may_leave c.requires.0 (whole c.args.entry.now) c.args.named c.args.self.now call c.requires.1 is

pub join-requires : goal.join-requires
join-requires c = λ call is.
    subst (λ (qs : List (List ℕ)). CanJoin call qs) (sym c.leave.ensures)
    (may_join c.requires.0 (whole c.args.entry.now) c.args.named c.args.self.now call (subst (λ (qs : List (List ℕ)). length qs ≡ most_places) c.self.view_is c.self.invariant) c.requires.1 (sym c.queued_by.ensures ∙ is))

pub returns : goal.returns
returns c = λ h m.
    subst (λ (qs : List (List ℕ)). AreQueues (whole c.args.entry.now ∷ h.past) qs)
    (sym (c.join.ensures ∙ ap (λ (q : Option Body). joined_by q c.leave.new.self) c.queued_by.ensures ∙ ap (λ (qs : List (List ℕ)). joined_by (queued_by (whole c.args.entry.now)) qs) c.leave.ensures))
    (moved h (whole c.args.entry.now) c.args.named c.args.self.now (subst (λ (qs : List (List ℕ)). length qs ≡ most_places) c.self.view_is c.self.invariant) m)
