-- What is kept follows a journal.
use Rattle.std.proofs.Common.{◌≡◌, ◌≤◌, ◌<◌, ◌+◌, ◌^◌, ℕ, suc, Bool, List, [], ◌∷◌, ◌++◌, Some, None, Option, Result, Ok, Err, length, map, refl, sym, ap, ◌∙◌, subst, arith, Bor, codes, if◌then◌else◌}
use Rattle.std.specs.Prelude.{OnOk, string_bytes, ◌&&◌, is_none}
use Rattle.std.specs.Option.{unwrap_or}
use Rattle.rv_access.specs.Lines.{allows}
use Rattle.rv_access.specs.Words.{Words}
use Rattle.rv_shape.specs.Shape.{Shape}
use Rattle.rv_event.specs.Recorded.{recorded}
use Rattle.rv_event.specs.declared.entry.Answer.{Answer}
use Rattle.rv_event.specs.declared.entry.Body.{Body}
use Rattle.rv_event.specs.declared.entry.Entry.{Entry}
use Rattle.rv_event.specs.declared.entry.Entry.TheVariants.{Asked, Load, ListChange}
use Rattle.rv_event.specs.declared.entry.Recorded.{Recorded}
use Rattle.rv_event.specs.declared.entry.Request.{Request}
use Rattle.rv_history.specs.History.{History, force, last_list}
use Rattle.rv_history.specs.Legal.{Legal}
use Rattle.rv_history.proofs.Growing.{last_of}
use Rattle.rv_reading.specs.Reads.{told}
use Rattle.rv_reading.specs.Told.{Told, Asks, Loads, Lists}
use Rattle.rv_reading.specs.declared.deed.Deed.{Deed}
use Rattle.rv_reading.specs.declared.deed.Deed.TheVariants as Deeds
use Rattle.rv_audit.specs.Meant.{Meant, OfList, next}
use Rattle.rv_audit.specs.Observing.{Notes, Takes}
use Rattle.rv_refused.specs.Filters.{FilterText}
use Rattle.rv_refused.specs.Looking.{WillHold}
use Rattle.rv_asked.specs.Asked.{asked_at, line_by, takes}
use Rattle.rv_asked.specs.Holding.{Keeps}
use Rattle.rv_asked.specs.Tabled.{IsTabled}
use Rattle.rv_asked.specs.declared.tabled.Tabled.{Tabled}
use Rattle.rv_asked.specs.Times.{Test, one_if, times_in}
use Rattle.rv_asked.proofs.Staying.{stays}
use Rattle.rv_asked.proofs.Timing.{times_few, times_listed, times_loaded}
use Rattle.rv_asked.specs.declared.holding.Holding.{Holding}
use Rattle.rv_tallied.specs.Tallies.{kept_for, row_text, rows_text}
use Rattle.rv_tallied.proofs.Steps.{one_if_is, tally_is}
use Rattle.rv_tallied.specs.declared.tallies.Tally.{Tally}
use Rattle.rv_hits.specs.Counts.{AreOf, IsFresh}
use Rattle.rv_hits.specs.Following.{Awaits, CountsCall, Follows, Gathers, Joins, Looks, Renews, Sees, SeesLines, counted_for, tallied, unmatched}
use Rattle.rv_hits.specs.Hits.{decides_by, decides_none, grants_by, has_words, hits_text, tally_of, tally_of_none, with_lines, words_of}
use Rattle.rv_hits.specs.declared.hits.Hits.{Hits}
use Rattle.rv_hits.proofs.Seeing.{lists_more}

-- One entry

few : (filter : FilterText) (test : Test) (h : History) → times_in test h ≤ length h.past
few filter test h = times_few test h.limits h.past h.shapes h.lists

none_is : (n : ℕ) → n ≡ n + 0
none_is n = omega arith

fits : (number n : ℕ) → number ≡ suc n → number < 2 ^ 64 → suc n < 2 ^ 64
fits number n is lt = omega arith

-- the tally of a history with this entry
abbrev then_tally : FilterText → History → Entry → List ℕ → Tally
then_tally filter h e words = tally_of filter (record h { past = e ∷ h.past }) words

tally_same : (m n i j : ℕ) → m ≡ i → n ≡ j → (let a : Tally = record { times = m; granted = n } in let b : Tally = record { times = i; granted = j } in a ≡ b)
tally_same m n i j e f = ap (λ (x : ℕ). let t : Tally = record { times = x; granted = n } in t) e ∙ ap (λ (x : ℕ). let t : Tally = record { times = i; granted = x } in t) f

-- nothing is asked
unasked_tally : (filter : FilterText) (h : History) (a : ℕ) (r : Request) (w : Recorded) (words : List ℕ) → asked_at h.shapes h.past (Asked a r w) ≡ None → tally_of filter h words ≡ then_tally filter h (Asked a r w) words
unasked_tally filter h a r w words none =
    let m = times_in (decides_by filter words) h in
    let n = times_in (grants_by filter words) h in
    tally_same m n (m + one_if (decides_by filter words h (asked_at h.shapes h.past (Asked a r w)))) (n + one_if (grants_by filter words h (asked_at h.shapes h.past (Asked a r w))))
    (none_is m ∙ sym (ap (λ (o : Option Body). m + one_if (decides_by filter words h o)) none))
    (none_is n ∙ sym (ap (λ (o : Option Body). n + one_if (grants_by filter words h o)) none))

unasked_none : (filter : FilterText) (h : History) (a : ℕ) (r : Request) (w : Recorded) → asked_at h.shapes h.past (Asked a r w) ≡ None → times_in (decides_none filter) h ≡ times_in (decides_none filter) (record h { past = Asked a r w ∷ h.past })
unasked_none filter h a r w none =
    let n = times_in (decides_none filter) h in
    none_is n ∙ sym (ap (λ (o : Option Body). n + one_if (decides_none filter h o)) none)

-- something is
asked_tally : (filter : FilterText) (h : History) (number a : ℕ) (r : Request) (w : Recorded) (call : Body) (words : List ℕ) (old : Tally) (taken : Bool) → asked_at h.shapes h.past (Asked a r w) ≡ Some call → number ≡ suc (length h.past) → number < 2 ^ 64 → old ≡ tally_of filter h words →
    taken ≡ takes filter h (suc (length h.past)) call →
    (if taken then tallied (line_by (force h) h call) words old else old) ≡ then_tally filter h (Asked a r w) words
asked_tally filter h number a r w call words old taken asked number_is lt old_is taken_is =
    let line : Option Words = line_by (force h) h call in
    let m = times_in (decides_by filter words) h in
    let n = times_in (grants_by filter words) h in
    ap (λ (t : Tally). if taken then tallied line words t else t) old_is
    ∙ tally_is taken (has_words words line) (allows line) m n (length h.past) (few filter (decides_by filter words) h) (few filter (grants_by filter words) h) (fits number (length h.past) number_is lt)
    ∙ ap (λ (b : Bool). let t : Tally = record { times = m + one_if (b && has_words words line); granted = n + one_if ((b && has_words words line) && allows line) } in t) taken_is
    ∙ sym (ap (λ (o : Option Body). let t : Tally = record { times = m + one_if (decides_by filter words h o); granted = n + one_if (grants_by filter words h o) } in t) asked)

asked_none : (filter : FilterText) (h : History) (number a : ℕ) (r : Request) (w : Recorded) (call : Body) (old : ℕ) (taken : Bool) → asked_at h.shapes h.past (Asked a r w) ≡ Some call → number ≡ suc (length h.past) → number < 2 ^ 64 → old ≡ times_in (decides_none filter) h →
    taken ≡ takes filter h (suc (length h.past)) call →
    (if taken then unmatched (line_by (force h) h call) old else old) ≡ times_in (decides_none filter) (record h { past = Asked a r w ∷ h.past })
asked_none filter h number a r w call old taken asked number_is lt old_is taken_is =
    let line : Option Words = line_by (force h) h call in
    let n = times_in (decides_none filter) h in
    ap (λ (x : ℕ). if taken then unmatched line x else x) old_is
    ∙ one_if_is taken (is_none line) n (length h.past) (few filter (decides_none filter) h) (fits number (length h.past) number_is lt)
    ∙ ap (λ (b : Bool). n + one_if (b && is_none line)) taken_is
    ∙ sym (ap (λ (o : Option Body). n + one_if (decides_none filter h o)) asked)

taken_is : (f filter : FilterText) (h : History) (number : ℕ) (call : Body) → f ≡ filter → number ≡ suc (length h.past) → takes f h number call ≡ takes filter h (suc (length h.past)) call
taken_is f filter h number call e is = ap (λ (x : FilterText). takes x h number call) e ∙ ap (λ (n : ℕ). takes filter h n call) is

-- what is kept behind an entry, by what it asks
followed : (filter : FilterText) (old middle new : Hits) (h : History) (number a : ℕ) (r : Request) (w : Recorded) (asked : Option Body) → asked_at h.shapes h.past (Asked a r w) ≡ asked → number < 2 ^ 64 → Gathers filter old h → IsTabled old.tabled h → number ≡ suc (length h.past) → CountsCall old middle h number asked →
    new ≡ record middle { holding = new.holding } → Keeps new.holding h.shapes (Asked a r w ∷ h.past) → Gathers filter new (record h { past = Asked a r w ∷ h.past })
followed filter old middle new h number a r w None none lt follows tabled number_is same rest keeps = record {
  taken = ap (λ (x : Hits). x.filter) rest ∙ ap (λ (x : Hits). x.filter) same ∙ follows.taken;
  holding = keeps;
  words = ap (λ (x : Hits). map string_bytes x.words.items) rest ∙ ap (λ (x : Hits). map string_bytes x.words.items) same ∙ follows.words;
  counts = subst (λ (x : Hits). AreOf x.counts.items (force h)) (sym rest) (subst (λ (x : Hits). AreOf x.counts.items (force h)) (sym same) follows.counts);
  tallies = λ words. ap (λ (x : Hits). counted_for x words) rest ∙ ap (λ (x : Hits). counted_for x words) same ∙ follows.tallies words ∙ unasked_tally filter h a r w words none;
  unmatched = ap (λ (x : Hits). x.unmatched) rest ∙ ap (λ (x : Hits). x.unmatched) same ∙ follows.unmatched ∙ unasked_none filter h a r w none;
}
followed filter old middle new h number a r w (Some call) asked lt follows tabled number_is counts rest keeps =
    let k = counts follows.holding follows.counts tabled in
    let taken = taken_is old.filter filter h number call follows.taken number_is in
    record {
      taken = ap (λ (x : Hits). x.filter) rest ∙ ap (λ (x : Hits). x.filter) k.rest ∙ follows.taken;
      holding = keeps;
      words = ap (λ (x : Hits). map string_bytes x.words.items) rest ∙ ap (λ (x : Hits). map string_bytes x.words.items) k.rest ∙ follows.words;
      counts = subst (λ (x : Hits). AreOf x.counts.items (force h)) (sym rest) k.counts;
      tallies = λ words. ap (λ (x : Hits). counted_for x words) rest ∙ k.tallies words
          ∙ asked_tally filter h number a r w call words (counted_for old words) (takes old.filter h number call) asked number_is lt (follows.tallies words) taken;
      unmatched = ap (λ (x : Hits). x.unmatched) rest ∙ k.unmatched
          ∙ asked_none filter h number a r w call old.unmatched (takes old.filter h number call) asked number_is lt follows.unmatched taken;
    }

middle_holds : (old middle : Hits) (h : History) (number : ℕ) (asked : Option Body) → CountsCall old middle h number asked → Keeps old.holding h.shapes h.past → AreOf old.counts.items (force h) → IsTabled old.tabled h →
    Keeps middle.holding h.shapes h.past × IsTabled middle.tabled h
middle_holds old middle h number None same keeps are tabled =
    (subst (λ (x : Hits). Keeps x.holding h.shapes h.past) (sym same) keeps, subst (λ (x : Hits). IsTabled x.tabled h) (sym same) tabled)
middle_holds old middle h number (Some call) counts keeps are tabled =
    let rest = (counts keeps are tabled).rest in (
      subst (λ (x : Holding). Keeps x h.shapes h.past) (sym (ap (λ (x : Hits). x.holding) rest)) keeps,
      subst (λ (x : Tabled). IsTabled x h) (sym (ap (λ (x : Hits). x.tabled) rest)) tabled,
    )

-- an entry is looked at: what it asks is counted, and it is noted
pub looks : (old middle new : Hits) (h : History) (shapes : List Shape) (number a : ℕ) (r : Request) (w : Recorded) (asked : Option Body) → shapes ≡ h.shapes → ((past : List Entry) → Keeps old.holding shapes past → asked ≡ asked_at shapes past (Asked a r w)) → number < 2 ^ 64 →
    CountsCall old middle h number asked → new ≡ record middle { holding = new.holding } → ((past : List Entry) → Keeps middle.holding shapes past → Keeps new.holding shapes (Asked a r w ∷ past)) → Looks old new h number (Asked a r w)
looks old middle new h shapes number a r w asked names asks lt counts rest notes filter follows number_is =
    let gathers : Gathers filter old h = follows.gathers in
    let before : Keeps old.holding shapes h.past = subst (λ (ss : List Shape). Keeps old.holding ss h.past) (sym names) gathers.holding in
    let is : asked_at h.shapes h.past (Asked a r w) ≡ asked = sym (asks h.past before ∙ ap (λ (ss : List Shape). asked_at ss h.past (Asked a r w)) names) in
    let middle_is : Keeps middle.holding h.shapes h.past × IsTabled middle.tabled h = middle_holds old middle h number asked counts gathers.holding gathers.counts follows.tabled in
    let middle_keeps : Keeps middle.holding shapes h.past = subst (λ (ss : List Shape). Keeps middle.holding ss h.past) (sym names) middle_is.0 in
    record {
      gathers = followed filter old middle new h number a r w asked is lt gathers follows.tabled number_is counts rest
          (subst (λ (ss : List Shape). Keeps new.holding ss (Asked a r w ∷ h.past)) names (notes h.past middle_keeps));
      tabled = subst (λ (x : Tabled). IsTabled x h) (sym (ap (λ (x : Hits). x.tabled) rest)) middle_is.1;
    }

-- A load and a list change

loaded : (filter : FilterText) (it : Hits) (h : History) (unit : Shape) → Legal h → Gathers filter it h → Gathers filter it (record h { past = Load ∷ h.past; shapes = h.shapes ++ unit ∷ [] })
loaded filter it h unit legal follows = record {
  taken = follows.taken;
  holding = stays it.holding h unit legal follows.holding;
  words = follows.words;
  counts = follows.counts;
  tallies = λ words. follows.tallies words
      ∙ sym (tally_same (times_in (decides_by filter words) (record h { past = Load ∷ h.past; shapes = h.shapes ++ unit ∷ [] })) (times_in (grants_by filter words) (record h { past = Load ∷ h.past; shapes = h.shapes ++ unit ∷ [] })) (times_in (decides_by filter words) h) (times_in (grants_by filter words) h)
      (times_loaded (decides_by filter words) h unit (λ k. refl)) (times_loaded (grants_by filter words) h unit (λ k. refl)));
  unmatched = follows.unmatched ∙ sym (times_loaded (decides_none filter) h unit (λ k. refl));
}

force_is : (lists : List (List Words)) (list : List Words) → last_list (lists ++ list ∷ []) ≡ list
force_is lists list = ap (λ (o : Option (List Words)). unwrap_or o []) (last_of lists list)

listed : (filter : FilterText) (old new : Hits) (h k : History) (list : List Words) → k ≡ record h { past = ListChange ∷ h.past; lists = h.lists ++ list ∷ [] } → Sees old new k → Gathers filter old h → Gathers filter new k
listed filter old new h k list is sees follows =
    let force_k : force k ≡ list = ap (λ (x : History). force x) is ∙ force_is h.lists list in
    subst (λ (x : History). Gathers filter new x) (sym is) (record {
      taken = ap (λ (x : Hits). x.filter) sees.rest ∙ follows.taken;
      holding = subst (λ (x : Hits). Keeps x.holding h.shapes (ListChange ∷ h.past)) (sym sees.rest) (record { calls = follows.holding.calls; bodies = follows.holding.bodies });
      words = sees.words ∙ ap (λ (ws : List (List ℕ)). with_lines ws (force k)) follows.words ∙ ap (λ (l : List Words). with_lines (words_of h.lists) l) force_k ∙ sym (lists_more [] h.lists list);
      counts = subst (λ (x : History). AreOf new.counts.items (force x)) is sees.counts;
      tallies = λ words. sees.tallies words ∙ follows.tallies words
          ∙ sym (tally_same (times_in (decides_by filter words) (record h { past = ListChange ∷ h.past; lists = h.lists ++ list ∷ [] })) (times_in (grants_by filter words) (record h { past = ListChange ∷ h.past; lists = h.lists ++ list ∷ [] })) (times_in (decides_by filter words) h) (times_in (grants_by filter words) h)
          (times_listed (decides_by filter words) h list (λ k. refl)) (times_listed (grants_by filter words) h list (λ k. refl)));
      unmatched = ap (λ (x : Hits). x.unmatched) sees.rest ∙ follows.unmatched ∙ sym (times_listed (decides_none filter) h list (λ k. refl));
    })

-- the table is renewed
renewed : (filter : FilterText) (old new : Hits) (k : History) → Renews old new k → Gathers filter old k → Follows filter new k
renewed filter old new k renews gathers = record {
  gathers = subst (λ (x : Hits). Gathers filter x k) (sym renews.rest) (record {
    taken = gathers.taken;
    holding = gathers.holding;
    words = gathers.words;
    counts = gathers.counts;
    tallies = gathers.tallies;
    unmatched = gathers.unmatched;
  });
  tabled = renews.tabled;
}

-- What a line tells

on_ok : {A E : Type 0} (r : Result A E) (X Y : Type 0) → (X → Y) → OnOk r X → OnOk r Y
on_ok (Ok a) X Y f x = f x
on_ok (Err e) X Y f x = x

abbrev pub NotesTold : Hits → Hits → List Shape → History → ℕ → Told → Type 0
NotesTold old new units h number it =
    (begun : Hits) → Notes (Follows begun.filter old) (Awaits begun.filter new units) h number it

asked_noted : (old new : Hits) (units : List Shape) (h : History) (number a : ℕ) (r : Request) (w : Recorded) → Looks old new h number (Asked a r w) → NotesTold old new units h number (Asks a r w)
asked_noted old new units h number a r w look begun follows number_is meant means due_is =
    subst (λ (m : Meant). Follows begun.filter new (next h m w)) (sym means) (look begun.filter follows number_is)

pub asks_noted : {E : Type 0} (old new : Hits) (units : List Shape) (h : History) (number : ℕ) (deed : Deed) (a : ℕ) (r : Request) (w : Recorded) (result : Result (Unit {0}) E) → deed ≡ Deeds.Asks a r w →
    OnOk result (Looks old new h number (Asked a r w)) → OnOk result (NotesTold old new units h number (told deed))
asks_noted old new units h number deed a r w result is look =
    subst (λ (d : Deed). OnOk result (NotesTold old new units h number (told d))) (sym is)
    (on_ok result (Looks old new h number (Asked a r w)) (NotesTold old new units h number (Asks a r w)) (asked_noted old new units h number a r w) look)

load_noted : (it : Hits) (units : List Shape) (h : History) (number a : ℕ) (name : List ℕ) (w : Recorded) → Legal h → NotesTold it it units h number (Loads a name w)
load_noted it units h number a name w legal begun follows number_is meant means due_is =
    subst (λ (m : Meant). Gathers begun.filter it (next h m w)) (sym means.2) (loaded begun.filter it h means.0 legal follows.gathers)

pub loads_noted : (it : Hits) (units : List Shape) (h : History) (number : ℕ) (deed : Deed) (a : ℕ) (name : Bor (List ℕ)) (w : Recorded) → deed ≡ Deeds.Loads a name w → Legal h → NotesTold it it units h number (told deed)
loads_noted it units h number deed a name w is legal =
    subst (λ (d : Deed). NotesTold it it units h number (told d)) (sym is) (load_noted it units h number a name.now w legal)

pub lists_noted : (it : Hits) (units : List Shape) (h : History) (number : ℕ) (deed : Deed) (a : ℕ) (text : Bor (List ℕ)) (w : Recorded) → deed ≡ Deeds.Lists a text w → NotesTold it it units h number (told deed)
lists_noted it units h number deed a text w is =
    subst (λ (d : Deed). NotesTold it it units h number (told d)) (sym is) (λ begun follows number_is. follows.gathers)

-- Behind an entry

abbrev pub TakesTold : Hits → Hits → List Shape → History → Told → Answer → Type 0
TakesTold old new units after it answer =
    (begun : Hits) → Takes (Awaits begun.filter old units) (Follows begun.filter new) units after it answer

awaited : (P : History → Type 0) (units : List Shape) (k : History) (deed : Told) (answer : Answer) → Takes (WillHold P units) P units k deed answer
awaited P units k deed answer h meant will means answer_is recorded_is after_is =
    subst P (sym after_is) (will meant means (ap recorded (sym answer_is) ∙ recorded_is))

pub asks_taken : (it : Hits) (units : List Shape) (k : History) (deed : Deed) (a : ℕ) (r : Request) (w : Recorded) (answer : Answer) → deed ≡ Deeds.Asks a r w → TakesTold it it units k (told deed) answer
asks_taken it units k deed a r w answer is =
    subst (λ (d : Deed). TakesTold it it units k (told d) answer) (sym is) (λ begun. awaited (Follows begun.filter it) units k (Asks a r w) answer)

load_taken : (old new : Hits) (units : List Shape) (k : History) (a : ℕ) (name : List ℕ) (w : Recorded) (answer : Answer) → Renews old new k → TakesTold old new units k (Loads a name w) answer
load_taken old new units k a name w answer renews begun h meant will means answer_is recorded_is after_is =
    renewed begun.filter old new k renews (awaited (Gathers begun.filter old) units k (Loads a name w) answer h meant will means answer_is recorded_is after_is)

pub loads_taken : {E : Type 0} (old new : Hits) (units : List Shape) (k : History) (deed : Deed) (a : ℕ) (name : Bor (List ℕ)) (w : Recorded) (answer : Answer) (result : Result (Unit {0}) E) → deed ≡ Deeds.Loads a name w → OnOk result (Renews old new k) →
    OnOk result (TakesTold old new units k (told deed) answer)
loads_taken old new units k deed a name w answer result is renews =
    subst (λ (d : Deed). OnOk result (TakesTold old new units k (told d) answer)) (sym is)
    (on_ok result (Renews old new k) (TakesTold old new units k (Loads a name.now w) answer) (load_taken old new units k a name.now w answer) renews)

list_taken : (old new : Hits) (units : List Shape) (k : History) (a : ℕ) (text : List ℕ) (w : Recorded) (answer : Answer) → Sees old new k → TakesTold old new units k (Lists a text w) answer
list_taken old new units k a text w answer sees begun h meant gathers means answer_is recorded_is after_is =
    let list : List Words = means.0 in
    let is : k ≡ next h (OfList a list) w = after_is ∙ ap (λ (m : Meant). next h m w) means.2 in
    record { gathers = listed begun.filter old new h k list is sees gathers; tabled = sees.tabled }

pub lists_taken : {E : Type 0} (old new : Hits) (units : List Shape) (k : History) (deed : Deed) (a : ℕ) (text : Bor (List ℕ)) (w : Recorded) (answer : Answer) (result : Result (Unit {0}) E) → deed ≡ Deeds.Lists a text w → OnOk result (Sees old new k) →
    OnOk result (TakesTold old new units k (told deed) answer)
lists_taken old new units k deed a text w answer result is sees =
    subst (λ (d : Deed). OnOk result (TakesTold old new units k (told d) answer)) (sym is)
    (on_ok result (Sees old new k) (TakesTold old new units k (Lists a text.now w) answer) (list_taken old new units k a text.now w answer) sees)

-- All that is said

pub all_said : (filter : FilterText) (it new : Hits) (h : History) (middle all : List ℕ) → Gathers filter it h → Joins it new → middle ≡ rows_text (codes "decided") (kept_for new.tallies) (map string_bytes new.words.items) →
    all ≡ middle ++ row_text (codes "decided") (codes "no line") (record { times = new.unmatched; granted = 0 }) → all ≡ hits_text filter h
all_said filter it new h middle all follows joins middle_is all_is =
    let words_is : map string_bytes new.words.items ≡ words_of h.lists = ap (λ (x : Hits). map string_bytes x.words.items) joins.rest ∙ follows.words in
    let unmatched_is : new.unmatched ≡ times_in (decides_none filter) h = ap (λ (x : Hits). x.unmatched) joins.rest ∙ follows.unmatched in
    all_is ∙ ap (λ (m : List ℕ). m ++ row_text (codes "decided") (codes "no line") (record { times = new.unmatched; granted = 0 })) middle_is
    ∙ ap (λ (n : ℕ). rows_text (codes "decided") (kept_for new.tallies) (map string_bytes new.words.items) ++ row_text (codes "decided") (codes "no line") (record { times = n; granted = 0 })) unmatched_is
    ∙ ap (λ (ws : List (List ℕ)). rows_text (codes "decided") (kept_for new.tallies) ws ++ row_text (codes "decided") (codes "no line") (tally_of_none filter h)) words_is
    ∙ (λ i. rows_text (codes "decided") (λ words. (joins.tallies words ∙ follows.tallies words) i) (words_of h.lists) ++ row_text (codes "decided") (codes "no line") (tally_of_none filter h))

-- A list comes in force: what the lines of the one before decided is added to the tallies, and no line of it has decided yet

pub lines_seen : (old middle new : Hits) (list : List Words) → Joins old middle → IsFresh new.counts.items list → map string_bytes new.words.items ≡ with_lines (map string_bytes middle.words.items) list →
    new ≡ record middle { words = new.words; counts = new.counts } → SeesLines old new list
lines_seen old middle new list joins fresh words rest = record {
  words = words ∙ ap (λ (x : Hits). with_lines (map string_bytes x.words.items) list) joins.rest;
  counts = fresh.are;
  tallies = λ ws. fresh.never ws (kept_for new.tallies ws) ∙ ap (λ (x : Hits). kept_for x.tallies ws) rest ∙ joins.tallies ws;
  rest = rest ∙ ap (λ (x : Hits). record x { words = new.words; counts = new.counts }) joins.rest
      ∙ ap (λ (x : Hits). record old { words = new.words; counts = new.counts; tallies = x.tallies }) (sym rest);
}

pub list_seen : (old middle new : Hits) (h : History) → SeesLines old middle (force h) → Renews middle new h → Sees old new h
list_seen old middle new h sees renews = record {
  words = ap (λ (x : Hits). map string_bytes x.words.items) renews.rest ∙ sees.words;
  counts = subst (λ (x : Hits). AreOf x.counts.items (force h)) (sym renews.rest) sees.counts;
  tallies = λ ws. ap (λ (x : Hits). counted_for x ws) renews.rest ∙ sees.tallies ws;
  tabled = renews.tabled;
  rest = renews.rest ∙ ap (λ (x : Hits). record x { tabled = new.tabled }) sees.rest
      ∙ ap (λ (x : Hits). record old { words = x.words; counts = x.counts; tallies = x.tallies; tabled = new.tabled }) (sym renews.rest);
}
