-- What is kept follows a journal.
use Rattle.std.proofs.Common.{◌≡◌, ◌≤◌, ◌<◌, ◌+◌, ◌^◌, ℕ, suc, Bool, true, false, List, [], ◌∷◌, ◌++◌, Some, None, Option, Result, Ok, Err, length, map, refl, sym, ap, ◌∙◌, subst, append-nil, append_assoc, arith, Bor, codes, if◌then◌else◌}
use Rattle.std.specs.Prelude.{OnOk, String, string_bytes, ◌&&◌}
use Rattle.std.specs.Str.{bytes_eq}
use Rattle.rv_access.specs.Lines.{allows}
use Rattle.rv_access.specs.Words.{Words}
use Rattle.rv_shape.specs.Shape.{Shape}
use Rattle.rv_event.specs.Recorded.{recorded}
use Rattle.rv_event.specs.declared.entry.Answer.{Answer}
use Rattle.rv_event.specs.declared.entry.Body.{Body}
use Rattle.rv_event.specs.declared.entry.Entry.{Entry}
use Rattle.rv_event.specs.declared.entry.Entry.TheVariants.{Asked, Load, ListChange}
use Rattle.rv_event.specs.declared.entry.Recorded.{Recorded}
use Rattle.rv_event.specs.declared.entry.Request.{Request}
use Rattle.rv_history.specs.History.{History}
use Rattle.rv_history.specs.Legal.{Legal}
use Rattle.rv_history.proofs.Growing.{front_is}
use Rattle.rv_reading.specs.Reads.{told}
use Rattle.rv_reading.specs.Told.{Told, Asks, Loads, Lists}
use Rattle.rv_reading.specs.declared.deed.Deed.{Deed}
use Rattle.rv_reading.specs.declared.deed.Deed.TheVariants as Deeds
use Rattle.rv_audit.specs.Meant.{Meant, OfList, OfLoad, due, next}
use Rattle.rv_audit.specs.Observing.{Notes, Takes}
use Rattle.rv_refused.specs.Filters.{FilterText}
use Rattle.rv_refused.specs.Looking.{WillHold}
use Rattle.rv_asked.specs.Asked.{asked_at, line_by, takes}
use Rattle.rv_asked.specs.Holding.{Keeps}
use Rattle.rv_asked.specs.Times.{Test, one_if, times_in}
use Rattle.rv_asked.proofs.Staying.{stays}
use Rattle.rv_asked.proofs.Timing.{times_few, times_listed, times_loaded}
use Rattle.rv_asked.specs.declared.holding.Holding.{Holding}
use Rattle.rv_tallied.specs.Tallies.{counted, kept_for, rows_text}
use Rattle.rv_tallied.proofs.Steps.{tally_is}
use Rattle.rv_tallied.specs.declared.tallies.Tallies.{Tallies}
use Rattle.rv_tallied.specs.declared.tallies.Tally.{Tally}
use Rattle.rv_whatif.specs.Changes.{call_text, call_words, calls_in, change_of, changes_in, differs, head, is_changed, is_granted_of, is_of, line_if, line_of, tally_of, whatif_text, with_call}
use Rattle.rv_whatif.specs.Following.{Follows, Judges, JudgesCall, Looks}
use Rattle.rv_whatif.specs.declared.whatif.WhatIf.{WhatIf}

few : (test : Test) (h : History) → times_in test h ≤ length h.past
few test h = times_few test h.limits h.past h.shapes h.lists

none_is : (n : ℕ) → n ≡ n + 0
none_is n = omega arith

fits : (number n : ℕ) → number ≡ suc n → number < 2 ^ 64 → suc n < 2 ^ 64
fits number n is lt = omega arith

tally_same : (m n i j : ℕ) → m ≡ i → n ≡ j → (let a : Tally = record { times = m; granted = n } in let b : Tally = record { times = i; granted = j } in a ≡ b)
tally_same m n i j e f = ap (λ (x : ℕ). let t : Tally = record { times = x; granted = n } in t) e ∙ ap (λ (x : ℕ). let t : Tally = record { times = i; granted = x } in t) f

-- the history with an entry
abbrev then_asked : History → ℕ → Request → Recorded → History
then_asked h a r w = record h { past = Asked a r w ∷ h.past }

-- Nothing is asked

unasked_tally : (filter : FilterText) (list : List Words) (h : History) (a : ℕ) (r : Request) (w : Recorded) (words : List ℕ) → asked_at h.shapes h.past (Asked a r w) ≡ None → tally_of filter list h words ≡ tally_of filter list (then_asked h a r w) words
unasked_tally filter list h a r w words none =
    let m = times_in (is_of filter list words) h in
    let n = times_in (is_granted_of filter list words) h in
    tally_same m n (m + one_if (is_of filter list words h (asked_at h.shapes h.past (Asked a r w)))) (n + one_if (is_granted_of filter list words h (asked_at h.shapes h.past (Asked a r w))))
    (none_is m ∙ sym (ap (λ (o : Option Body). m + one_if (is_of filter list words h o)) none))
    (none_is n ∙ sym (ap (λ (o : Option Body). n + one_if (is_granted_of filter list words h o)) none))

-- what is put behind a text for what is asked
abbrev put_for : FilterText → List Words → History → Entry → Option Body → List ℕ
put_for filter list h e asked = line_if (is_changed filter list h asked) list h (suc (length h.past)) e asked

-- the calls with that
abbrev calls_with : FilterText → List Words → History → Option Body → List (List ℕ)
calls_with filter list h asked = with_call (is_changed filter list h asked) (calls_in filter list h.limits h.past h.shapes h.lists) (call_words h asked)

-- A call is

asked_tally : (filter : FilterText) (list : List Words) (h : History) (number a : ℕ) (r : Request) (w : Recorded) (call : Body) (words : List ℕ) (old : Tally) (changed : Bool) → asked_at h.shapes h.past (Asked a r w) ≡ Some call → number ≡ suc (length h.past) → number < 2 ^ 64 →
    old ≡ tally_of filter list h words → changed ≡ is_changed filter list h (Some call) →
    (if changed then counted (call_text h call) (allows (line_by list h call)) words old else old) ≡ tally_of filter list (then_asked h a r w) words
asked_tally filter list h number a r w call words old changed asked number_is lt old_is changed_is =
    let grants : Bool = allows (line_by list h call) in
    let same : Bool = bytes_eq (call_text h call) words in
    let m = times_in (is_of filter list words) h in
    let n = times_in (is_granted_of filter list words) h in
    ap (λ (t : Tally). if changed then counted (call_text h call) grants words t else t) old_is
    ∙ tally_is changed same grants m n (length h.past) (few (is_of filter list words) h) (few (is_granted_of filter list words) h) (fits number (length h.past) number_is lt)
    ∙ ap (λ (b : Bool). let t : Tally = record { times = m + one_if (b && same); granted = n + one_if ((b && same) && grants) } in t) changed_is
    ∙ sym (ap (λ (o : Option Body). let t : Tally = record { times = m + one_if (is_of filter list words h o); granted = n + one_if (is_granted_of filter list words h o) } in t) asked)

put_is : (b : Bool) (list : List Words) (h : History) (number : ℕ) (e : Entry) (call : Body) → (if b then line_of list h number e call else []) ≡ line_if b list h number e (Some call)
put_is true list h number e call = refl
put_is false list h number e call = refl

-- whether it is changed, by what is kept
abbrev told_changed : WhatIf → History → ℕ → Body → Bool
told_changed it h number call = takes it.filter h number call && differs it.list h call

changed_is : (it : WhatIf) (filter : FilterText) (list : List Words) (h : History) (number : ℕ) (call : Body) → it.filter ≡ filter → it.list ≡ list → number ≡ suc (length h.past) → told_changed it h number call ≡ is_changed filter list h (Some call)
changed_is it filter list h number call e f is =
    ap (λ (x : FilterText). takes x h number call && differs it.list h call) e ∙ ap (λ (n : ℕ). takes filter h n call && differs it.list h call) is
    ∙ ap (λ (l : List Words). takes filter h (suc (length h.past)) call && differs l h call) f

text_is : (filter : FilterText) (list other : List Words) (h : History) (number a : ℕ) (r : Request) (w : Recorded) (call : Body) (text old : List ℕ) (changed : Bool) → asked_at h.shapes h.past (Asked a r w) ≡ Some call → number ≡ suc (length h.past) → other ≡ list →
    changed ≡ is_changed filter list h (Some call) → old ≡ changes_in filter list h.limits h.past h.shapes h.lists → text ≡ old ++ (if changed then line_of other h number (Asked a r w) call else []) →
    text ≡ changes_in filter list h.limits (Asked a r w ∷ h.past) h.shapes h.lists
text_is filter list other h number a r w call text old changed asked number_is other_is c_is old_is t_is =
    let e : Entry = Asked a r w in
    t_is ∙ ap (λ (l : List Words). old ++ (if changed then line_of l h number e call else [])) other_is
    ∙ ap (λ (n : ℕ). old ++ (if changed then line_of list h n e call else [])) number_is
    ∙ ap (λ (t : List ℕ). old ++ t) (put_is changed list h (suc (length h.past)) e call)
    ∙ ap (λ (b : Bool). old ++ line_if b list h (suc (length h.past)) e (Some call)) c_is
    ∙ ap (λ (t : List ℕ). t ++ put_for filter list h e (Some call)) old_is
    ∙ sym (ap (λ (o : Option Body). changes_in filter list h.limits h.past h.shapes h.lists ++ put_for filter list h e o) asked)

-- What is kept behind an entry

followed : (filter : FilterText) (list : List Words) (old middle new : WhatIf) (h : History) (number a : ℕ) (r : Request) (w : Recorded) (asked : Option Body) → asked_at h.shapes h.past (Asked a r w) ≡ asked → number < 2 ^ 64 → Follows filter list old h → number ≡ suc (length h.past) →
    JudgesCall old middle h number (Asked a r w) asked → new ≡ record middle { holding = new.holding } → Keeps new.holding h.shapes (Asked a r w ∷ h.past) → Follows filter list new (then_asked h a r w)
followed filter list old middle new h number a r w None none lt follows number_is same rest keeps = record {
  taken = ap (λ (x : WhatIf). x.filter) rest ∙ ap (λ (x : WhatIf). x.filter) same ∙ follows.taken;
  list = ap (λ (x : WhatIf). x.list) rest ∙ ap (λ (x : WhatIf). x.list) same ∙ follows.list;
  holding = keeps;
  text = ap (λ (x : WhatIf). string_bytes x.text) rest ∙ ap (λ (x : WhatIf). string_bytes x.text) same ∙ follows.text ∙ sym (append-nil (changes_in filter list h.limits h.past h.shapes h.lists))
      ∙ sym (ap (λ (o : Option Body). changes_in filter list h.limits h.past h.shapes h.lists ++ put_for filter list h (Asked a r w) o) none);
  calls = ap (λ (x : WhatIf). map string_bytes x.calls.items) rest ∙ ap (λ (x : WhatIf). map string_bytes x.calls.items) same ∙ follows.calls ∙ sym (ap (λ (o : Option Body). calls_with filter list h o) none);
  tallies = λ words. ap (λ (x : WhatIf). kept_for x.tallies words) rest ∙ ap (λ (x : WhatIf). kept_for x.tallies words) same ∙ follows.tallies words ∙ unasked_tally filter list h a r w words none;
}
followed filter list old middle new h number a r w (Some call) asked lt follows number_is judges rest keeps =
    let k = judges follows.holding in
    let is = changed_is old filter list h number call follows.taken follows.list number_is in
    let told = told_changed old h number call in
    record {
      taken = ap (λ (x : WhatIf). x.filter) rest ∙ k.filter ∙ follows.taken;
      list = ap (λ (x : WhatIf). x.list) rest ∙ k.list ∙ follows.list;
      holding = keeps;
      text = ap (λ (x : WhatIf). string_bytes x.text) rest ∙ text_is filter list old.list h number a r w call (string_bytes middle.text) (string_bytes old.text) told asked number_is follows.list is follows.text k.text;
      calls = ap (λ (x : WhatIf). map string_bytes x.calls.items) rest ∙ k.calls ∙ ap (λ (b : Bool). with_call b (map string_bytes old.calls.items) (call_text h call)) is
          ∙ ap (λ (ws : List (List ℕ)). with_call (is_changed filter list h (Some call)) ws (call_text h call)) follows.calls ∙ sym (ap (λ (o : Option Body). calls_with filter list h o) asked);
      tallies = λ words. ap (λ (x : WhatIf). kept_for x.tallies words) rest ∙ k.tallies words
          ∙ ap (λ (ls : List Words). if told then counted (call_text h call) (allows (line_by ls h call)) words (kept_for old.tallies words) else kept_for old.tallies words) follows.list
          ∙ asked_tally filter list h number a r w call words (kept_for old.tallies words) told asked number_is lt (follows.tallies words) is;
    }

middle_holds : (old middle : WhatIf) (h : History) (number : ℕ) (e : Entry) (asked : Option Body) → JudgesCall old middle h number e asked → Keeps old.holding h.shapes h.past → Keeps middle.holding h.shapes h.past
middle_holds old middle h number e None same keeps = subst (λ (x : WhatIf). Keeps x.holding h.shapes h.past) (sym same) keeps
middle_holds old middle h number e (Some call) judges keeps = subst (λ (x : Holding). Keeps x h.shapes h.past) (sym (judges keeps).holding) keeps

pub looks : (old middle new : WhatIf) (h : History) (shapes : List Shape) (number a : ℕ) (r : Request) (w : Recorded) (asked : Option Body) → shapes ≡ h.shapes → ((past : List Entry) → Keeps old.holding shapes past → asked ≡ asked_at shapes past (Asked a r w)) → number < 2 ^ 64 →
    JudgesCall old middle h number (Asked a r w) asked → new ≡ record middle { holding = new.holding } → ((past : List Entry) → Keeps middle.holding shapes past → Keeps new.holding shapes (Asked a r w ∷ past)) →
    Looks old new h number (Asked a r w)
looks old middle new h shapes number a r w asked names asks lt judges rest notes filter list follows number_is =
    let before : Keeps old.holding shapes h.past = subst (λ (ss : List Shape). Keeps old.holding ss h.past) (sym names) follows.holding in
    let is : asked_at h.shapes h.past (Asked a r w) ≡ asked = sym (asks h.past before ∙ ap (λ (ss : List Shape). asked_at ss h.past (Asked a r w)) names) in
    let middle_keeps : Keeps middle.holding shapes h.past = subst (λ (ss : List Shape). Keeps middle.holding ss h.past) (sym names) (middle_holds old middle h number (Asked a r w) asked judges follows.holding) in
    followed filter list old middle new h number a r w asked is lt follows number_is judges rest
    (subst (λ (ss : List Shape). Keeps new.holding ss (Asked a r w ∷ h.past)) names (notes h.past middle_keeps))

-- A load and a list change ask nothing

loaded : (filter : FilterText) (list : List Words) (it : WhatIf) (h : History) (unit : Shape) → Legal h → Follows filter list it h → Follows filter list it (record h { past = Load ∷ h.past; shapes = h.shapes ++ unit ∷ [] })
loaded filter list it h unit legal follows =
    let k : History = record h { past = Load ∷ h.past; shapes = h.shapes ++ unit ∷ [] } in
    record {
      taken = follows.taken;
      list = follows.list;
      holding = stays it.holding h unit legal follows.holding;
      text = follows.text ∙ sym (append-nil (changes_in filter list h.limits h.past h.shapes h.lists)) ∙ sym (ap (λ (ss : List Shape). changes_in filter list h.limits h.past ss h.lists ++ []) (front_is h.shapes unit));
      calls = follows.calls ∙ sym (ap (λ (ss : List Shape). calls_in filter list h.limits h.past ss h.lists) (front_is h.shapes unit));
      tallies = λ words. follows.tallies words
          ∙ sym (tally_same (times_in (is_of filter list words) k) (times_in (is_granted_of filter list words) k) (times_in (is_of filter list words) h) (times_in (is_granted_of filter list words) h)
          (times_loaded (is_of filter list words) h unit (λ x. refl)) (times_loaded (is_granted_of filter list words) h unit (λ x. refl)));
    }

listed : (filter : FilterText) (list : List Words) (it : WhatIf) (h : History) (other : List Words) → Follows filter list it h → Follows filter list it (record h { past = ListChange ∷ h.past; lists = h.lists ++ other ∷ [] })
listed filter list it h other follows =
    let k : History = record h { past = ListChange ∷ h.past; lists = h.lists ++ other ∷ [] } in
    record {
      taken = follows.taken;
      list = follows.list;
      holding = record { calls = follows.holding.calls; bodies = follows.holding.bodies };
      text = follows.text ∙ sym (append-nil (changes_in filter list h.limits h.past h.shapes h.lists)) ∙ sym (ap (λ (ls : List (List Words)). changes_in filter list h.limits h.past h.shapes ls ++ []) (front_is h.lists other));
      calls = follows.calls ∙ sym (ap (λ (ls : List (List Words)). calls_in filter list h.limits h.past h.shapes ls) (front_is h.lists other));
      tallies = λ words. follows.tallies words
          ∙ sym (tally_same (times_in (is_of filter list words) k) (times_in (is_granted_of filter list words) k) (times_in (is_of filter list words) h) (times_in (is_granted_of filter list words) h)
          (times_listed (is_of filter list words) h other (λ x. refl)) (times_listed (is_granted_of filter list words) h other (λ x. refl)));
    }

-- What a line tells

on_ok : {A E : Type 0} (r : Result A E) (X Y : Type 0) → (X → Y) → OnOk r X → OnOk r Y
on_ok (Ok a) X Y f x = f x
on_ok (Err e) X Y f x = x

abbrev pub NotesTold : WhatIf → WhatIf → List Shape → History → ℕ → Told → Type 0
NotesTold old new units h number it =
    (begun : WhatIf) → Notes (Follows begun.filter begun.list old) (WillHold (Follows begun.filter begun.list new) units) h number it

asked_noted : (old new : WhatIf) (units : List Shape) (h : History) (number a : ℕ) (r : Request) (w : Recorded) → Looks old new h number (Asked a r w) → NotesTold old new units h number (Asks a r w)
asked_noted old new units h number a r w look begun follows number_is meant means due_is =
    subst (λ (m : Meant). Follows begun.filter begun.list new (next h m w)) (sym means) (look begun.filter begun.list follows number_is)

pub asks_noted : {E : Type 0} (old new : WhatIf) (units : List Shape) (h : History) (number : ℕ) (deed : Deed) (a : ℕ) (r : Request) (w : Recorded) (result : Result (Unit {0}) E) → deed ≡ Deeds.Asks a r w →
    OnOk result (Looks old new h number (Asked a r w)) → OnOk result (NotesTold old new units h number (told deed))
asks_noted old new units h number deed a r w result is look =
    subst (λ (d : Deed). OnOk result (NotesTold old new units h number (told d))) (sym is)
    (on_ok result (Looks old new h number (Asked a r w)) (NotesTold old new units h number (Asks a r w)) (asked_noted old new units h number a r w) look)

load_noted : (it : WhatIf) (units : List Shape) (h : History) (number a : ℕ) (name : List ℕ) (w : Recorded) → Legal h → NotesTold it it units h number (Loads a name w)
load_noted it units h number a name w legal begun follows number_is meant means due_is =
    subst (λ (m : Meant). Follows begun.filter begun.list it (next h m w)) (sym means.2) (loaded begun.filter begun.list it h means.0 legal follows)

pub loads_noted : (it : WhatIf) (units : List Shape) (h : History) (number : ℕ) (deed : Deed) (a : ℕ) (name : Bor (List ℕ)) (w : Recorded) → deed ≡ Deeds.Loads a name w → Legal h → NotesTold it it units h number (told deed)
loads_noted it units h number deed a name w is legal =
    subst (λ (d : Deed). NotesTold it it units h number (told d)) (sym is) (load_noted it units h number a name.now w legal)

list_noted : (it : WhatIf) (units : List Shape) (h : History) (number a : ℕ) (text : List ℕ) (w : Recorded) → NotesTold it it units h number (Lists a text w)
list_noted it units h number a text w begun follows number_is meant means due_is =
    subst (λ (m : Meant). Follows begun.filter begun.list it (next h m w)) (sym means.2) (listed begun.filter begun.list it h means.0 follows)

pub lists_noted : (it : WhatIf) (units : List Shape) (h : History) (number : ℕ) (deed : Deed) (a : ℕ) (text : Bor (List ℕ)) (w : Recorded) → deed ≡ Deeds.Lists a text w → NotesTold it it units h number (told deed)
lists_noted it units h number deed a text w is =
    subst (λ (d : Deed). NotesTold it it units h number (told d)) (sym is) (list_noted it units h number a text.now w)

-- what will hold does
pub then_holds : (it : WhatIf) (units : List Shape) (k : History) (deed : Told) (answer : Answer) → (begun : WhatIf) →
    Takes (WillHold (Follows begun.filter begun.list it) units) (Follows begun.filter begun.list it) units k deed answer
then_holds it units k deed answer begun h meant will means answer_is recorded_is after_is =
    subst (λ (x : History). Follows begun.filter begun.list it x) (sym after_is) (will meant means (ap recorded (sym answer_is) ∙ recorded_is))

-- All that is said

pub all_said : (filter : FilterText) (list : List Words) (it : WhatIf) (h : History) (first text all : List ℕ) → Follows filter list it h → first ≡ head → text ≡ first ++ string_bytes it.text →
    all ≡ text ++ rows_text (codes "changed") (kept_for it.tallies) (map string_bytes it.calls.items) → all ≡ whatif_text filter list h
all_said filter list it h first text all follows first_is text_is all_is =
    let changes : List ℕ = changes_in filter list h.limits h.past h.shapes h.lists in
    let calls : List (List ℕ) = calls_in filter list h.limits h.past h.shapes h.lists in
    all_is ∙ ap (λ (t : List ℕ). t ++ rows_text (codes "changed") (kept_for it.tallies) (map string_bytes it.calls.items)) (text_is ∙ ap (λ (t : List ℕ). t ++ string_bytes it.text) first_is ∙ ap (λ (t : List ℕ). head ++ t) follows.text)
    ∙ ap (λ (cs : List (List ℕ)). (head ++ changes) ++ rows_text (codes "changed") (kept_for it.tallies) cs) follows.calls
    ∙ (λ i. (head ++ changes) ++ rows_text (codes "changed") (λ words. follows.tallies words i) calls)
    ∙ append_assoc head changes (rows_text (codes "changed") (tally_of filter list h) calls)
