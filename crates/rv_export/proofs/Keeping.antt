-- What is kept follows a journal.
use Rattle.std.proofs.Common.{◌≡◌, ℕ, suc, List, [], ◌∷◌, ◌++◌, length, refl, sym, ap, ◌∙◌, subst}
use Rattle.std.specs.Option.{option_map}
use Rattle.rv_access.specs.Words.{Words}
use Rattle.rv_shape.specs.Shape.{Shape}
use Rattle.rv_event.specs.Past as past
use Rattle.rv_event.specs.declared.entry.Entry.{Entry}
use Rattle.rv_event.specs.declared.entry.Entry.TheVariants.{Asked, Load, ListChange}
use Rattle.rv_event.specs.declared.entry.Recorded.{Recorded}
use Rattle.rv_event.specs.declared.entry.Request.{Request}
use Rattle.rv_history.specs.History.{History}
use Rattle.rv_history.specs.Legal.{Legal}
use Rattle.rv_history.proofs.Growing.{front_is}
use Rattle.rv_refused.specs.Refusals.{dropping_words}
use Rattle.rv_asked.specs.Holding as held
use Rattle.rv_asked.specs.declared.holding.Holding.{Holding}
use Rattle.rv_asked.proofs.Staying.{stays}
use Rattle.rv_lasting.specs.Calls.{KeepsCalls}
use Rattle.rv_lasting.specs.Lasting.{since}
use Rattle.rv_lasting.specs.Tracks.{closed, opened}
use Rattle.rv_lasting.specs.declared.calls.Calls.{Calls}
use Rattle.rv_lasting.specs.declared.track.Begun.{Begun}
use Rattle.rv_waits.specs.Lasting.{Bodies, lasting}
use Rattle.rv_export.specs.Kept.{Keeps, KeepsDrops, KeepsLeft, Notes, NotesBody, NotesRest}
use Rattle.rv_export.specs.declared.drops.Drops.{Drops}
use Rattle.rv_export.specs.declared.kept.Kept.{Kept}
use Rattle.rv_export.specs.declared.left.Left.{Left}

opened_is : (entry : Entry) (h : History) (number : ℕ) (begun : List Begun) → number ≡ suc (length h.past) → begun ≡ closed (past.ended entry) (lasting Bodies h.shapes h.past) →
    opened (option_map (since number (past.clock h.past)) (past.started h.shapes h.past entry)) begun
    ≡ opened (option_map (since (suc (length h.past)) (past.clock h.past)) (past.started h.shapes h.past entry)) (closed (past.ended entry) (lasting Bodies h.shapes h.past))
opened_is entry h number begun number_is begun_is =
    ap (λ (n : ℕ). opened (option_map (since n (past.clock h.past)) (past.started h.shapes h.past entry)) begun) number_is
    ∙ ap (λ (xs : List Begun). opened (option_map (since (suc (length h.past)) (past.clock h.past)) (past.started h.shapes h.past entry)) xs) begun_is

pub noted : (old one new : Kept) (h : History) (number a : ℕ) (r : Request) (w : Recorded) → NotesBody old one h number (Asked a r w) → NotesRest one new h number (Asked a r w) → Notes old new h number (Asked a r w)
noted old one new h number a r w body rest keeps number_is = record {
  holding = rest.holding (subst (λ (x : Holding). held.Keeps x h.shapes h.past) (sym (ap (λ (k : Kept). k.holding) body.rest)) keeps.holding);
  calls = rest.calls (subst (λ (x : Calls). KeepsCalls x h.past) (sym (ap (λ (k : Kept). k.calls) body.rest)) keeps.calls);
  bodies = ap (λ (k : Kept). k.bodies.begun) rest.rest ∙ body.bodies keeps.calls ∙ opened_is (Asked a r w) h number old.bodies.begun number_is keeps.bodies;
  left = rest.left (subst (λ (x : Left). KeepsLeft x h.past) (sym (ap (λ (k : Kept). k.left) body.rest)) keeps.left) number_is;
  drops = rest.drops (subst (λ (x : Drops). KeepsDrops x h.past h.lists) (sym (ap (λ (k : Kept). k.drops) body.rest)) keeps.drops) refl;
}

-- a load and a list change leave it

pub kept_loaded : (it : Kept) (h : History) (unit : Shape) → Legal h → Keeps it h → Keeps it (record h { past = Load ∷ h.past; shapes = h.shapes ++ unit ∷ [] })
kept_loaded it h unit legal keeps = record {
  holding = stays it.holding h unit legal keeps.holding;
  calls = keeps.calls;
  bodies = keeps.bodies ∙ sym (ap (λ (ss : List Shape). lasting Bodies ss h.past) (front_is h.shapes unit));
  left = λ actor. keeps.left actor;
  drops = λ actor. keeps.drops actor;
}

pub kept_listed : (it : Kept) (h : History) (list : List Words) → Keeps it h → Keeps it (record h { past = ListChange ∷ h.past; lists = h.lists ++ list ∷ [] })
kept_listed it h list keeps = record {
  holding = record { calls = keeps.holding.calls; bodies = keeps.holding.bodies };
  calls = keeps.calls;
  bodies = keeps.bodies;
  left = λ actor. keeps.left actor;
  drops = λ actor. keeps.drops actor ∙ sym (ap (λ (ls : List (List Words)). dropping_words actor h.past ls) (front_is h.lists list));
}
