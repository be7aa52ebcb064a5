-- What ties entries to one another follows a journal.
use Rattle.std.proofs.Common.{◌≡◌, ℕ, suc, List, [], ◌∷◌, ◌++◌, Option, length, refl, sym, ap, ◌∙◌, subst}
use Rattle.std.specs.Option.{option_map}
use Rattle.rv_access.specs.Words.{Words}
use Rattle.rv_shape.specs.Shape.{Shape}
use Rattle.rv_event.specs.Past as past
use Rattle.rv_event.specs.declared.entry.Body.{Body}
use Rattle.rv_event.specs.declared.entry.Entry.TheVariants.{Asked, Load, ListChange}
use Rattle.rv_event.specs.declared.entry.Recorded.{Recorded}
use Rattle.rv_event.specs.declared.entry.Request.{Request}
use Rattle.rv_history.specs.History.{History}
use Rattle.rv_history.specs.Legal.{Legal}
use Rattle.rv_history.proofs.Growing.{front_is}
use Rattle.rv_refused.specs.Refusals.{dropping_words}
use Rattle.rv_asked.specs.Holding.{Keeps}
use Rattle.rv_asked.specs.declared.holding.Holding.{Holding}
use Rattle.rv_asked.proofs.Staying.{stays}
use Rattle.rv_lasting.specs.Calls.{KeepsCalls}
use Rattle.rv_lasting.specs.Lasting.{since, waiting_by}
use Rattle.rv_lasting.specs.Tracks.{closed, opened}
use Rattle.rv_lasting.specs.declared.calls.Calls.{Calls}
use Rattle.rv_lasting.specs.declared.track.Begun.{Begun}
use Rattle.rv_waits.specs.Lasting.{Waits, Bodies, freed_by, lasting}
use Rattle.rv_explained.specs.Following.{KeepsTies, NotesBodies, NotesRest, NotesTies, NotesWaits}
use Rattle.rv_explained.specs.Ties.{KeepsDrops}
use Rattle.rv_explained.specs.declared.drops.Drops.{Drops}
use Rattle.rv_explained.specs.declared.ties.Ties.{Ties}

-- What is kept

turned_is : (number n tick : ℕ) (call : Option Body) (actor : Option ℕ) (begun last : List Begun) → number ≡ n → begun ≡ last →
    opened (option_map (since number tick) call) (closed actor begun) ≡ opened (option_map (since n tick) call) (closed actor last)
turned_is number n tick call actor begun last number_is begun_is =
    ap (λ (k : ℕ). opened (option_map (since k tick) call) (closed actor begun)) number_is
    ∙ ap (λ (xs : List Begun). opened (option_map (since n tick) call) (closed actor xs)) begun_is

pub ties_noted : (old one two new : Ties) (h : History) (number a : ℕ) (r : Request) (w : Recorded) → NotesWaits old one h number (Asked a r w) → NotesBodies one two h number (Asked a r w) → NotesRest two new h number (Asked a r w) →
    NotesTies old new h number (Asked a r w)
ties_noted old one two new h number a r w waits bodies rest keeps number_is =
    let calls_one : one.calls ≡ old.calls = ap (λ (t : Ties). t.calls) waits.rest in
    let calls_two : two.calls ≡ old.calls = ap (λ (t : Ties). t.calls) bodies.rest ∙ calls_one in
    let drops_two : two.drops ≡ old.drops = ap (λ (t : Ties). t.drops) bodies.rest ∙ ap (λ (t : Ties). t.drops) waits.rest in
    let holding_two : two.holding ≡ old.holding = ap (λ (t : Ties). t.holding) bodies.rest ∙ ap (λ (t : Ties). t.holding) waits.rest in
    let list_two : two.list_entry ≡ old.list_entry = ap (λ (t : Ties). t.list_entry) bodies.rest ∙ ap (λ (t : Ties). t.list_entry) waits.rest in
    let kept_one : KeepsCalls one.calls h.past = subst (λ (c : Calls). KeepsCalls c h.past) (sym calls_one) keeps.calls in
    let kept_two : KeepsCalls two.calls h.past = subst (λ (c : Calls). KeepsCalls c h.past) (sym calls_two) keeps.calls in
    let kept_drops : KeepsDrops two.drops h.past h.lists = subst (λ (d : Drops). KeepsDrops d h.past h.lists) (sym drops_two) keeps.drops in
    let kept_holding : Keeps two.holding h.shapes h.past = subst (λ (x : Holding). Keeps x h.shapes h.past) (sym holding_two) keeps.holding in
    record {
      holding = rest.holding kept_holding;
      calls = rest.calls kept_two;
      waits = ap (λ (t : Ties). t.waits.begun) rest.rest ∙ ap (λ (t : Ties). t.waits.begun) bodies.rest ∙ waits.waits
          ∙ turned_is number (suc (length h.past)) (past.clock h.past) (waiting_by (Asked a r w)) (freed_by h.past (Asked a r w)) old.waits.begun (lasting Waits h.shapes h.past) number_is keeps.waits;
      bodies = ap (λ (t : Ties). t.bodies.begun) rest.rest ∙ bodies.bodies kept_one
          ∙ turned_is number (suc (length h.past)) (past.clock h.past) (past.started h.shapes h.past (Asked a r w)) (past.ended (Asked a r w)) one.bodies.begun (lasting Bodies h.shapes h.past) number_is
          (ap (λ (t : Ties). t.bodies.begun) waits.rest ∙ keeps.bodies);
      drops = rest.drops kept_drops number_is (list_two ∙ keeps.list_entry) refl;
      list_entry = ap (λ (t : Ties). t.list_entry) rest.rest ∙ list_two ∙ keeps.list_entry;
    }

-- a load and a list change leave what is kept

pub ties_loaded : (it : Ties) (h : History) (unit : Shape) → Legal h → KeepsTies it h → KeepsTies it (record h { past = Load ∷ h.past; shapes = h.shapes ++ unit ∷ [] })
ties_loaded it h unit legal keeps = record {
  holding = stays it.holding h unit legal keeps.holding;
  calls = keeps.calls;
  waits = keeps.waits ∙ sym (ap (λ (ss : List Shape). lasting Waits ss h.past) (front_is h.shapes unit));
  bodies = keeps.bodies ∙ sym (ap (λ (ss : List Shape). lasting Bodies ss h.past) (front_is h.shapes unit));
  drops = record { numbers = λ actor. keeps.drops.numbers actor; since = λ actor. keeps.drops.since actor; lines = λ actor. keeps.drops.lines actor };
  list_entry = keeps.list_entry;
}

pub ties_listed : (it : Ties) (h : History) (number : ℕ) (list : List Words) → number ≡ suc (length h.past) → KeepsTies it h → KeepsTies (record it { list_entry = number }) (record h { past = ListChange ∷ h.past; lists = h.lists ++ list ∷ [] })
ties_listed it h number list number_is keeps = record {
  holding = record { calls = keeps.holding.calls; bodies = keeps.holding.bodies };
  calls = keeps.calls;
  waits = keeps.waits;
  bodies = keeps.bodies;
  drops = record {
    numbers = λ actor. keeps.drops.numbers actor;
    since = λ actor. keeps.drops.since actor;
    lines = λ actor. keeps.drops.lines actor ∙ sym (ap (λ (ls : List (List Words)). dropping_words actor h.past ls) (front_is h.lists list));
  };
  list_entry = number_is;
}
