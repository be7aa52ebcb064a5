-- What is kept and said follows a journal.
use Rattle.std.proofs.Common.{◌≡◌, ℕ, suc, Bool, true, false, List, [], ◌∷◌, ◌++◌, Option, Result, Ok, Err, length, refl, sym, ap, ◌∙◌, subst, append-nil, arith, Bor, if◌then◌else◌}
use Rattle.std.proofs.lemmas.Bool.Decides.{nat_tests}
use Rattle.std.specs.Prelude.{◌==◌, OnOk, string_bytes}
use Rattle.std.specs.Option.{unwrap_or}
use Rattle.rv_access.specs.Text.{list_text}
use Rattle.rv_access.specs.Words.{Words}
use Rattle.rv_shape.specs.Shape.{Shape}
use Rattle.rv_event.specs.Past as past
use Rattle.rv_event.specs.Recorded.{recorded}
use Rattle.rv_event.specs.Text.{entry_line}
use Rattle.rv_event.specs.declared.entry.Answer.{Answer}
use Rattle.rv_event.specs.declared.entry.Entry.{Entry}
use Rattle.rv_event.specs.declared.entry.Entry.TheVariants.{Asked, Load, ListChange}
use Rattle.rv_event.specs.declared.entry.Recorded.{Recorded}
use Rattle.rv_event.specs.declared.entry.Request.{Request}
use Rattle.rv_history.specs.History.{History, last_list}
use Rattle.rv_history.specs.Journal.{last_unit, name_in}
use Rattle.rv_history.specs.Legal.{Legal}
use Rattle.rv_history.proofs.Growing.{front_is, last_of}
use Rattle.rv_reading.specs.Reads.{told}
use Rattle.rv_reading.specs.Told.{Told, Asks, Loads, Lists}
use Rattle.rv_reading.specs.declared.deed.Deed.{Deed}
use Rattle.rv_reading.specs.declared.deed.Deed.TheVariants as Deeds
use Rattle.rv_audit.specs.Meant.{Meant, next}
use Rattle.rv_audit.specs.Observing.{Notes, Takes}
use Rattle.rv_audit.proofs.Growing.{name_of_first}
use Rattle.rv_refused.specs.Looking.{WillHold}
use Rattle.rv_lasting.specs.Tracks.{ended}
use Rattle.rv_lasting.specs.declared.track.Begun.{Begun}
use Rattle.rv_waits.specs.Lasting.{Waits, Bodies, end_of, freed_by, lasting}
use Rattle.rv_explained.specs.Explanations.{at_entry, explanation, is_entry, later, later_body, later_wait, no_entry, said_in, said_of, says_of, still, still_by, tick_line, why_by}
use Rattle.rv_explained.specs.Following.{EndsAre, Follows, KeepsTies, Looks, LooksAtMark, NotesTies, Puts, PutsAsked, PutsLater}
use Rattle.rv_explained.proofs.Tying.{ties_listed, ties_loaded}
use Rattle.rv_explained.specs.declared.explained.Explained.{Explained}
use Rattle.rv_explained.specs.declared.ties.Ends.{Ends}
use Rattle.rv_explained.specs.declared.ties.Ties.{Ties}

-- One entry

is_same : (n m k : ℕ) → (m == n) ≡ true → m ≡ k → (n == k) ≡ true
is_same n m k e is = grind (arith, nat_tests)

is_other : (n m k : ℕ) → (m == n) ≡ false → m ≡ k → (n == k) ≡ false
is_other n m k e is = grind (arith, nat_tests)

abbrev line_at : List Shape → ℕ → Entry → List ℕ
line_at shapes number entry = entry_line shapes number entry [] []

line_is : (h : History) (shapes : List Shape) (number : ℕ) (entry : Entry) (text : List ℕ) → text ≡ line_at shapes number entry → shapes ≡ h.shapes → number ≡ suc (length h.past) → text ≡ line_at h.shapes (suc (length h.past)) entry
line_is h shapes number entry text text_is names number_is =
    text_is ∙ ap (λ (ss : List Shape). line_at ss number entry) names ∙ ap (λ (n : ℕ). line_at h.shapes n entry) number_is

pub asked_put : (old new : Explained) (h : History) (shapes : List Shape) (number a : ℕ) (r : Request) (w : Recorded) (text : List ℕ) (ends : Ends) → (number == old.entry) ≡ true → shapes ≡ h.shapes → text ≡ line_at shapes number (Asked a r w) →
    EndsAre old.ties h (Asked a r w) ends → PutsAsked old new h a r w text ends → new ≡ record old { text = new.text } → Puts old new h number (Asked a r w) [] []
asked_put old new h shapes number a r w text ends same names text_is are puts rest = record {
  text = λ keeps number_is.
      let e : Entry = Asked a r w in
      let at : List ℕ = line_at h.shapes (suc (length h.past)) e in
      puts keeps
      ∙ ap (λ (t : List ℕ). string_bytes old.text ++ (t ++ (tick_line h ++ why_by h a r w ends.body ends.wait))) (line_is h shapes number e text text_is names number_is)
      ∙ ap (λ (it : Option Begun). string_bytes old.text ++ (at ++ (tick_line h ++ why_by h a r w it ends.wait))) (are.body ∙ ap (λ (xs : List Begun). ended (past.ended e) xs) keeps.bodies)
      ∙ ap (λ (it : Option Begun). string_bytes old.text ++ (at ++ (tick_line h ++ why_by h a r w (end_of Bodies h.shapes h.past e) it))) (are.wait ∙ ap (λ (xs : List Begun). ended (freed_by h.past e) xs) keeps.waits)
      ∙ sym (ap (λ (b : Bool). string_bytes old.text ++ (if b then at_entry h e [] [] else later old.entry h e at)) (is_same old.entry number (suc (length h.past)) same number_is));
  rest = rest;
}

abbrev later_by : ℕ → History → ℕ → Entry → List ℕ → Option Begun → Option Begun → List ℕ
later_by asked h number entry text wait body =
    later_wait asked h number (past.next_of entry) text wait ++ later_body asked h number text body

pub later_put : (old new : Explained) (h : History) (shapes : List Shape) (number : ℕ) (entry : Entry) (text : List ℕ) (ends : Ends) → (number == old.entry) ≡ false → shapes ≡ h.shapes → text ≡ line_at shapes number entry → EndsAre old.ties h entry ends →
    PutsLater old new h number entry text ends → new ≡ record old { text = new.text } → Puts old new h number entry [] []
later_put old new h shapes number entry text ends other names text_is are puts rest = record {
  text = λ keeps number_is.
      let k : ℕ = suc (length h.past) in
      let at : List ℕ = line_at h.shapes k entry in
      puts keeps
      ∙ ap (λ (t : List ℕ). string_bytes old.text ++ later_by old.entry h number entry t ends.wait ends.body) (line_is h shapes number entry text text_is names number_is)
      ∙ ap (λ (n : ℕ). string_bytes old.text ++ later_by old.entry h n entry at ends.wait ends.body) number_is
      ∙ ap (λ (it : Option Begun). string_bytes old.text ++ later_by old.entry h k entry at it ends.body) (are.wait ∙ ap (λ (xs : List Begun). ended (freed_by h.past entry) xs) keeps.waits)
      ∙ ap (λ (it : Option Begun). string_bytes old.text ++ later_by old.entry h k entry at (end_of Waits h.shapes h.past entry) it) (are.body ∙ ap (λ (xs : List Begun). ended (past.ended entry) xs) keeps.bodies)
      ∙ sym (ap (λ (b : Bool). string_bytes old.text ++ (if b then at_entry h entry [] [] else later old.entry h entry at)) (is_other old.entry number k other number_is));
  rest = rest;
}

pub looked : (old middle new : Explained) (h : History) (number a : ℕ) (r : Request) (w : Recorded) → Puts old middle h number (Asked a r w) [] [] → NotesTies middle.ties new.ties h number (Asked a r w) →
    new ≡ record middle { ties = new.ties; used = number } → Looks old new h number (Asked a r w)
looked old middle new h number a r w puts notes rest begun follows number_is =
    let kept : KeepsTies middle.ties h = subst (λ (t : Ties). KeepsTies t h) (sym (ap (λ (x : Explained). x.ties) puts.rest)) follows.ties in
    record {
      entry = ap (λ (x : Explained). x.entry) rest ∙ ap (λ (x : Explained). x.entry) puts.rest ∙ follows.entry;
      used = ap (λ (x : Explained). x.used) rest ∙ number_is;
      ties = notes kept number_is;
      text = ap (λ (x : Explained). string_bytes x.text) rest ∙ puts.text follows.ties number_is
          ∙ ap (λ (t : List ℕ). t ++ says_of old.entry h (Asked a r w) [] []) follows.text
          ∙ ap (λ (n : ℕ). said_of begun.entry h ++ says_of n h (Asked a r w) [] []) follows.entry;
    }

-- Marks

abbrev mark_text : ℕ → History → Entry → List ℕ → List ℕ → Bool → List ℕ
mark_text number h entry unit list is = if is then entry_line h.shapes number entry unit list ++ tick_line h else []

mark_is : (asked number : ℕ) (h : History) (line : List ℕ) (is : Bool) → (number == asked) ≡ is → number ≡ suc (length h.past) → (if is then line ++ tick_line h else []) ≡ (if asked == suc (length h.past) then line ++ (tick_line h ++ []) else [])
mark_is asked number h line true e number_is =
    ap (λ (t : List ℕ). line ++ t) (sym (append-nil (tick_line h)))
    ∙ sym (ap (λ (b : Bool). if b then line ++ (tick_line h ++ []) else []) (is_same asked number (suc (length h.past)) e number_is))
mark_is asked number h line false e number_is =
    sym (ap (λ (b : Bool). if b then line ++ (tick_line h ++ []) else []) (is_other asked number (suc (length h.past)) e number_is))

-- what a mark says of the entry that is asked about
abbrev of_mark : ℕ → History → List ℕ → List ℕ
of_mark asked h line = if asked == suc (length h.past) then line ++ (tick_line h ++ []) else []

mark_put : (begun old new : Explained) (h : History) (number : ℕ) (entry : Entry) (unit list : List ℕ) → LooksAtMark old new h number entry unit list → Follows begun old h → number ≡ suc (length h.past) →
    string_bytes new.text ≡ said_of begun.entry h ++ of_mark begun.entry h (entry_line h.shapes (suc (length h.past)) entry unit list)
mark_put begun old new h number entry unit list looks follows number_is =
    looks.text follows.ties number_is
    ∙ ap (λ (t : List ℕ). t ++ mark_text number h entry unit list (number == old.entry)) follows.text
    ∙ ap (λ (t : List ℕ). said_of begun.entry h ++ t) (mark_is old.entry number h (entry_line h.shapes number entry unit list) (number == old.entry) refl number_is)
    ∙ ap (λ (n : ℕ). said_of begun.entry h ++ of_mark n h (entry_line h.shapes number entry unit list)) follows.entry
    ∙ ap (λ (n : ℕ). said_of begun.entry h ++ of_mark begun.entry h (entry_line h.shapes n entry unit list)) number_is

loaded : (begun old new : Explained) (h : History) (number : ℕ) (unit : Shape) (name : List ℕ) → unit.name ≡ name → Legal h → LooksAtMark old new h number Load name [] → Follows begun old h → number ≡ suc (length h.past) →
    Follows begun new (record h { past = Load ∷ h.past; shapes = h.shapes ++ unit ∷ [] })
loaded begun old new h number unit name named legal looks follows number_is = record {
  entry = ap (λ (x : Explained). x.entry) looks.rest ∙ follows.entry;
  used = ap (λ (x : Explained). x.used) looks.rest ∙ number_is;
  ties = ties_loaded new.ties h unit legal (subst (λ (t : Ties). KeepsTies t h) (sym (ap (λ (x : Explained). x.ties) looks.rest)) follows.ties);
  text = mark_put begun old new h number Load name [] looks follows number_is
      ∙ ap (λ (u : List ℕ). said_of begun.entry h ++ of_mark begun.entry h (entry_line h.shapes (suc (length h.past)) Load u [])) (sym named ∙ sym (ap name_in (last_of h.shapes unit)))
      ∙ sym (ap (λ (ss : List Shape). said_in begun.entry h.limits h.past ss h.lists ++ of_mark begun.entry (record h { shapes = ss }) (entry_line ss (suc (length h.past)) Load (last_unit (h.shapes ++ unit ∷ [])) [])) (front_is h.shapes unit));
}

listed : (begun old middle new : Explained) (h : History) (number : ℕ) (list : List Words) (text : List ℕ) → list_text list ≡ text → LooksAtMark old middle h number ListChange [] text → new ≡ record middle { ties = record middle.ties { list_entry = number } } →
    Follows begun old h → number ≡ suc (length h.past) → Follows begun new (record h { past = ListChange ∷ h.past; lists = h.lists ++ list ∷ [] })
listed begun old middle new h number list text text_is looks set follows number_is =
    let kept : KeepsTies middle.ties h = subst (λ (t : Ties). KeepsTies t h) (sym (ap (λ (x : Explained). x.ties) looks.rest)) follows.ties in
    record {
      entry = ap (λ (x : Explained). x.entry) set ∙ ap (λ (x : Explained). x.entry) looks.rest ∙ follows.entry;
      used = ap (λ (x : Explained). x.used) set ∙ ap (λ (x : Explained). x.used) looks.rest ∙ number_is;
      ties = subst (λ (t : Ties). KeepsTies t (record h { past = ListChange ∷ h.past; lists = h.lists ++ list ∷ [] })) (sym (ap (λ (x : Explained). x.ties) set)) (ties_listed middle.ties h number list number_is kept);
      text = ap (λ (x : Explained). string_bytes x.text) set ∙ mark_put begun old middle h number ListChange [] text looks follows number_is
          ∙ ap (λ (t : List ℕ). said_of begun.entry h ++ of_mark begun.entry h (entry_line h.shapes (suc (length h.past)) ListChange [] t))
          (sym text_is ∙ sym (ap (λ (o : Option (List Words)). list_text (unwrap_or o [])) (last_of h.lists list)))
          ∙ sym (ap (λ (ls : List (List Words)). said_in begun.entry h.limits h.past h.shapes ls ++ of_mark begun.entry (record h { lists = ls }) (entry_line h.shapes (suc (length h.past)) ListChange [] (list_text (last_list (h.lists ++ list ∷ []))))) (front_is h.lists list));
    }

-- What a line tells

on_ok : {A E : Type 0} (r : Result A E) (X Y : Type 0) → (X → Y) → OnOk r X → OnOk r Y
on_ok (Ok a) X Y f x = f x
on_ok (Err e) X Y f x = x

abbrev pub NotesTold : Explained → Explained → List Shape → History → ℕ → Told → Type 0
NotesTold old new units h number it =
    (begun : Explained) → Notes (Follows begun old) (WillHold (Follows begun new) units) h number it

asked_at : (old new : Explained) (units : List Shape) (h : History) (number a : ℕ) (r : Request) (w : Recorded) → Looks old new h number (Asked a r w) → NotesTold old new units h number (Asks a r w)
asked_at old new units h number a r w looks begun follows number_is meant means due_is =
    subst (λ (m : Meant). Follows begun new (next h m w)) (sym means) (looks begun follows number_is)

pub asks_noted : {E : Type 0} (old new : Explained) (units : List Shape) (h : History) (number : ℕ) (deed : Deed) (a : ℕ) (r : Request) (w : Recorded) (result : Result (Unit {0}) E) → deed ≡ Deeds.Asks a r w →
    OnOk result (Looks old new h number (Asked a r w)) → OnOk result (NotesTold old new units h number (told deed))
asks_noted old new units h number deed a r w result is looks =
    subst (λ (d : Deed). OnOk result (NotesTold old new units h number (told d))) (sym is)
    (on_ok result (Looks old new h number (Asked a r w)) (NotesTold old new units h number (Asks a r w)) (asked_at old new units h number a r w) looks)

load_at : (old new : Explained) (units : List Shape) (h : History) (number a : ℕ) (name : List ℕ) (w : Recorded) → Legal h → LooksAtMark old new h number Load name [] → NotesTold old new units h number (Loads a name w)
load_at old new units h number a name w legal looks begun follows number_is meant means due_is =
    subst (λ (m : Meant). Follows begun new (next h m w)) (sym means.2)
    (loaded begun old new h number means.0 name (name_of_first units name means.0 means.1) legal looks follows number_is)

pub loads_noted : {E : Type 0} (old new : Explained) (units : List Shape) (h : History) (number : ℕ) (deed : Deed) (a : ℕ) (name : Bor (List ℕ)) (w : Recorded) (result : Result (Unit {0}) E) → deed ≡ Deeds.Loads a name w → Legal h →
    OnOk result (LooksAtMark old new h number Load name.now []) → OnOk result (NotesTold old new units h number (told deed))
loads_noted old new units h number deed a name w result is legal looks =
    subst (λ (d : Deed). OnOk result (NotesTold old new units h number (told d))) (sym is)
    (on_ok result (LooksAtMark old new h number Load name.now []) (NotesTold old new units h number (Loads a name.now w)) (load_at old new units h number a name.now w legal) looks)

list_at : (old middle new : Explained) (units : List Shape) (h : History) (number a : ℕ) (text : List ℕ) (w : Recorded) → LooksAtMark old middle h number ListChange [] text → new ≡ record middle { ties = record middle.ties { list_entry = number } } →
    NotesTold old new units h number (Lists a text w)
list_at old middle new units h number a text w looks set begun follows number_is meant means due_is =
    subst (λ (m : Meant). Follows begun new (next h m w)) (sym means.2)
    (listed begun old middle new h number means.0 text means.1.text_is looks set follows number_is)

pub lists_noted : (old middle new : Explained) (units : List Shape) (h : History) (number : ℕ) (deed : Deed) (a : ℕ) (text : Bor (List ℕ)) (w : Recorded) → deed ≡ Deeds.Lists a text w → LooksAtMark old middle h number ListChange [] text.now →
    new ≡ record middle { ties = record middle.ties { list_entry = number } } → NotesTold old new units h number (told deed)
lists_noted old middle new units h number deed a text w is looks set =
    subst (λ (d : Deed). NotesTold old new units h number (told d)) (sym is) (list_at old middle new units h number a text.now w looks set)

-- what will hold does
pub then_holds : (it : Explained) (units : List Shape) (k : History) (deed : Told) (answer : Answer) → (begun : Explained) → Takes (WillHold (Follows begun it) units) (Follows begun it) units k deed answer
then_holds it units k deed answer begun h meant will means answer_is recorded_is after_is =
    subst (λ (x : History). Follows begun it x) (sym after_is) (will meant means (ap recorded (sym answer_is) ∙ recorded_is))

-- All that is said

pub none_said : (begun it : Explained) (h : History) (text : List ℕ) → Follows begun it h → is_entry it.entry it.used ≡ false → text ≡ no_entry it.entry it.used → text ≡ explanation begun.entry h
none_said begun it h text follows none text_is =
    text_is ∙ sym (ap (λ (b : Bool). if b then said_of it.entry h ++ still it.entry h else no_entry it.entry it.used) none)
    ∙ ap (λ (n : ℕ). if is_entry it.entry n then said_of it.entry h ++ still it.entry h else no_entry it.entry n) follows.used
    ∙ ap (λ (n : ℕ). explanation n h) follows.entry

pub all_said : (begun it : Explained) (h : History) (text : List ℕ) → Follows begun it h → is_entry it.entry it.used ≡ true → text ≡ string_bytes it.text ++ still_by it.entry it.ties.waits.begun it.ties.bodies.begun → text ≡ explanation begun.entry h
all_said begun it h text follows is text_is =
    text_is
    ∙ ap (λ (t : List ℕ). t ++ still_by it.entry it.ties.waits.begun it.ties.bodies.begun) (follows.text ∙ ap (λ (n : ℕ). said_of n h) (sym follows.entry))
    ∙ ap (λ (xs : List Begun). said_of it.entry h ++ still_by it.entry xs it.ties.bodies.begun) follows.ties.waits
    ∙ ap (λ (xs : List Begun). said_of it.entry h ++ still_by it.entry (lasting Waits h.shapes h.past) xs) follows.ties.bodies
    ∙ sym (ap (λ (b : Bool). if b then said_of it.entry h ++ still it.entry h else no_entry it.entry it.used) is)
    ∙ ap (λ (n : ℕ). if is_entry it.entry n then said_of it.entry h ++ still it.entry h else no_entry it.entry n) follows.used
    ∙ ap (λ (n : ℕ). explanation n h) follows.entry
