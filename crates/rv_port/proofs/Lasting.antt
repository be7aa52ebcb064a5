-- What a pass knows of how long the journal lasts.
use Rattle.std.proofs.Common.{◌≡◌, ℕ, Bool, true, false, List, [], ◌∷◌, ◌++◌, ap, sym, refl, ◌∙◌, subst}
use Rattle.std.specs.Prelude.{ℤ, ◌&&◌, ◌||◌, not, is_some, Option, Some, None, Result, Ok, Err, MatchResult}
use Rattle.std.specs.List.{list_any}
use Rattle.std.proofs.lemmas.List.Folds.{list_any-append}
use Rattle.rv_turn.specs.Histories.{StartsWith}
use Rattle.atomic_table.specs.Seated.{TableId}
use Rattle.rv_turn.specs.Passes.{Acted, IsWorn, Meets, Parted, opening_of}
use Rattle.rv_turn.specs.declared.pass.Worn.{Worn}
use Rattle.rv_event.specs.Past.{archives}
use Rattle.rv_event.specs.declared.entry.Request.{Request}
use Rattle.rv_event.specs.declared.entry.Request.TheVariants.{Archive}
use Rattle.rv_event.specs.declared.entry.Answer.{Answer}
use Rattle.rv_event.specs.declared.entry.Answer.TheVariants as Answers
use Rattle.rv_event.specs.declared.entry.Recorded.TheVariants as Words
use Rattle.rv_history.specs.Allowance.{charged, is_spent, may_spend, spent, uses_up}
use Rattle.rv_history.specs.History.{History}
use Rattle.rv_history.specs.declared.limits.Limits.{Limits}
use Rattle.rv_behind.specs.Acting.{Does, Due, grown}
use Rattle.rv_behind.specs.Events.{by, history_at, mark}
use Rattle.rv_behind.specs.declared.event.Ask.{Ask}
use Rattle.rv_behind.specs.declared.event.Ask.TheVariants as Wants
use Rattle.rv_behind.specs.declared.event.Reply.{Reply}
use Rattle.rv_behind.specs.declared.event.Reply.TheVariants as Gives
use Rattle.rv_behind.specs.declared.event.Event.{Event}
use Rattle.rv_behind.specs.declared.event.Event.TheVariants.{Asks}
use Rattle.rv_port.specs.Controls.{Told, answer_in, is_accepted}
use Rattle.rv_port.specs.Traces.{IsKnown, IsUnbounded, Passing, asks_on, asked_again, comes_again, is_full, lasts, limits_in}
use Rattle.rv_port.proofs.Actors.{later_entry}

abbrev gives_up : Event → Bool
gives_up e = is_some (archives (mark e))

-- what lasted lasts on
pub lasts_later : (seen log : List Event) → StartsWith log seen → lasts seen ≡ true → lasts log ≡ true
lasts_later seen log s has =
    subst (λ (l : List Event). lasts l ≡ true) (sym s.1) (list_any-append gives_up seen s.0 ∙ ap (λ (t : Bool). t || list_any gives_up s.0) has)

or_true : (b : Bool) → (b || true) ≡ true
or_true true = refl
or_true false = refl

-- behind an archive the journal lasts
lasts_behind : (at : List Event) (a n : ℕ) (v : ℤ) → lasts (at ++ Asks a (Archive n) (Words.Accepted v) ∷ []) ≡ true
lasts_behind at a n v = list_any-append gives_up at (Asks a (Archive n) (Words.Accepted v) ∷ []) ∙ or_true (list_any gives_up at)

-- an act, a note, and a pass that was cut off

pub act_lasts : {T : Type 0} (b : Bool) (v w : Passing) (ask : Ask) (says : T → Reply) (answer : Result T Worn) → (b ≡ true → lasts v.seen ≡ true)
    → MatchResult answer (λ r. Acted by Does v ask (says r) w) (λ _. IsWorn v w) → b ≡ true → lasts w.seen ≡ true
act_lasts b v w ask says (Ok r) k a is = lasts_later v.seen w.seen (later_entry a.at v.seen v w a.later a.entry) (k is)
act_lasts b v w ask says (Err e) k t is = subst (λ (z : Passing). lasts z.seen ≡ true) (sym t.1) (k is)

pub meet_lasts : (b : Bool) (v w : Passing) (note : List Event) → (b ≡ true → lasts v.seen ≡ true) → Meets by v note w → b ≡ true → lasts w.seen ≡ true
meet_lasts b v w note k m is = lasts_later v.seen w.seen m.earlier (k is)

pub part_lasts : (b : Bool) (v w p : Passing) (actor acts : ℕ) → (b ≡ true → lasts v.seen ≡ true) → Parted by v actor acts w p → b ≡ true → lasts w.seen ≡ true
part_lasts b v w p actor acts k t is = lasts_later v.seen w.seen t.later (k is)

pub cut_lasts : (b : Bool) (v w p : Passing) (actor acts : ℕ) → (b ≡ true → lasts v.seen ≡ true) → Parted by v actor acts w p → b ≡ true → lasts p.seen ≡ true
cut_lasts b v w p actor acts k t is =
    subst (λ (z : Passing). lasts z.seen ≡ true) (sym t.new_is) (part_lasts b v w p actor acts k t is)

-- of a host without an allowance

pub act_unbounded : {T : Type 0} (b : Bool) (v w : Passing) (ask : Ask) (says : T → Reply) (answer : Result T Worn) → (b ≡ false → IsUnbounded v.about)
    → MatchResult answer (λ r. Acted by Does v ask (says r) w) (λ _. IsWorn v w) → b ≡ false → IsUnbounded w.about
act_unbounded b v w ask says (Ok r) k a is = subst IsUnbounded (sym (ap (λ (z : Passing). z.about) a.same)) (k is)
act_unbounded b v w ask says (Err e) k t is = subst (λ (z : Passing). IsUnbounded z.about) (sym t.1) (k is)

pub meet_unbounded : (b : Bool) (v w : Passing) (note : List Event) → (b ≡ false → IsUnbounded v.about) → Meets by v note w → b ≡ false → IsUnbounded w.about
meet_unbounded b v w note k m is = subst IsUnbounded (sym (ap (λ (z : Passing). z.about) m.same)) (k is)

pub part_unbounded : (b : Bool) (v w p : Passing) (actor acts : ℕ) → (b ≡ false → IsUnbounded v.about) → Parted by v actor acts w p → b ≡ false → IsUnbounded w.about
part_unbounded b v w p actor acts k t is = subst IsUnbounded (sym (ap (λ (z : Passing). z.about) t.rest)) (k is)

pub cut_unbounded : (b : Bool) (v w p : Passing) (actor acts : ℕ) → (b ≡ false → IsUnbounded v.about) → Parted by v actor acts w p → b ≡ false → IsUnbounded p.about
cut_unbounded b v w p actor acts k t is = subst IsUnbounded (sym (ap (λ (z : Passing). z.about) t.new_is)) (k is)

pub opened_unbounded : (turn : TableId) (pass : Passing) (limits : Limits) (log : List Event) (b : Bool) → pass ≡ opening_of turn limits by log
    → (b ≡ false → limits.allowance ≡ None) → b ≡ false → IsUnbounded pass.about
opened_unbounded turn pass limits log b is k free = subst (λ (z : Passing). IsUnbounded z.about) (sym is) (k free)

pub both_known : (lasting bounded result : Bool) (v : Passing) → (lasting ≡ true → lasts v.seen ≡ true) × (bounded ≡ false → IsUnbounded v.about)
    → result ≡ (lasting && not bounded) → result ≡ true → IsKnown v
both_known true false result v k is e = (k.0 refl, k.1 refl)
both_known true true result v k is e = absurd (cc (sym e ∙ is))
both_known false bounded result v k is e = absurd (cc (sym e ∙ is))

-- limits without an allowance
pub none_of : (allowance : Option ℕ) (b : Bool) → b ≡ is_some allowance → b ≡ false → allowance ≡ None
none_of None b is e = refl
none_of (Some most) b is e = absurd (cc (sym is ∙ e))

-- an archive that was accepted

by_answer : (at : List Event) (a n : ℕ) (r : Answer) (after : List Event) → after ≡ grown at a (Archive n) r → is_accepted r ≡ true → lasts after ≡ true
by_answer at a n (Answers.Accepted value) after d e = subst (λ (l : List Event). lasts l ≡ true) (sym d) (lasts_behind at a n value)
by_answer at a n (Answers.Started s) after d e = absurd (cc e)
by_answer at a n Answers.Queued after d e = absurd (cc e)
by_answer at a n (Answers.Refused rule line version) after d e = absurd (cc e)
by_answer at a n (Answers.Done next) after d e = absurd (cc e)
by_answer at a n Answers.Suspended after d e = absurd (cc e)
by_answer at a n Answers.Delayed after d e = absurd (cc e)
by_answer at a n (Answers.Woken s) after d e = absurd (cc e)
by_answer at a n r after d e = absurd (cc e)

due_lasts : (c : Limits) (at : List Event) (a n : ℕ) (reply : Reply) (after : List Event) → Due c at a (Wants.Step (Archive n)) reply after
    → is_accepted (answer_in reply) ≡ true → lasts after ≡ true
due_lasts c at a n (Gives.Answered r b lent) after d e = by_answer at a n r after d.0.1 e
due_lasts c at a n reply after d e = absurd d

pub archive_lasts : (v w : Passing) (n : ℕ) (r : Answer) → Told v (Wants.Step (Archive n)) r w → is_accepted r ≡ true → lasts w.seen ≡ true
archive_lasts v w n r t e =
    due_lasts t.2.about t.2.at v.actor n t.0 w.seen t.2.answer.2 (ap is_accepted (sym t.1) ∙ e)

-- what is asked again

unspent : (h : History) (unit : Option ℕ) → h.limits.allowance ≡ None → not (is_spent h unit) ≡ true
unspent h None free = refl
unspent h (Some number) free = ap (λ (most : Option ℕ). not (uses_up most (spent h.shapes number h.past))) free

-- without an allowance each Full is one of the journal
may_spend_all : (h : History) (a : ℕ) (q : Request) → h.limits.allowance ≡ None → may_spend h a q ≡ true
may_spend_all h a q free = unspent h (charged h.shapes h.past a q) free

both_true : (x y : Bool) → x ≡ true → y ≡ true → (x && y) ≡ true
both_true x y p q = ap (λ (t : Bool). t && y) p ∙ q

known_again : (limits : Limits) (seen at : List Event) (a : ℕ) (q : Request) → lasts seen ≡ true → limits.allowance ≡ None → StartsWith at seen
    → (lasts at && may_spend (history_at limits at) a q) ≡ true
known_again limits seen at a q has free s = both_true _ _ (lasts_later seen at s has) (may_spend_all (history_at limits at) a q free)

pub again_at : (b : Bool) (v : Passing) (at : List Event) (q : Request) (r : Answer) → (b ≡ true → IsKnown v) → StartsWith at v.seen → asked_again b r ≡ true
    → comes_again (limits_in v.about) at v.actor q r ≡ true
again_at true v at q r k s e =
    ap (λ (t : Bool). asks_on r || (is_full r && t)) (known_again (limits_in v.about) v.seen at v.actor q (k refl).0 (k refl).1 s) ∙ e
again_at false v at q Answers.Busy k s e = refl
again_at false v at q Answers.Waiting k s e = refl
again_at false v at q (Answers.Started x) k s e = absurd (cc e)
again_at false v at q Answers.Queued k s e = absurd (cc e)
again_at false v at q (Answers.Refused rule line version) k s e = absurd (cc e)
again_at false v at q (Answers.Done next) k s e = absurd (cc e)
again_at false v at q Answers.Suspended k s e = absurd (cc e)
again_at false v at q Answers.Delayed k s e = absurd (cc e)
again_at false v at q (Answers.Woken x) k s e = absurd (cc e)
again_at false v at q (Answers.Accepted n) k s e = absurd (cc e)
again_at false v at q r k s e = absurd (cc e)

-- what isn't asked again is no wait
pub calm_of : (b : Bool) (r : Answer) → asked_again b r ≡ false → asks_on r ≡ false
calm_of b Answers.Busy e = absurd (cc e)
calm_of b Answers.Waiting e = absurd (cc e)
calm_of b r e = refl

-- where nothing comes again at Full

without : (x y : Bool) → (x || (y && false)) ≡ x
without true y = refl
without false true = refl
without false false = refl

pub never_at_full : (limits : Limits) (log : List Event) (a : ℕ) (q : Request) (r : Answer) → lasts log ≡ false → comes_again limits log a q r ≡ asks_on r
never_at_full limits log a q r e =
    ap (λ (t : Bool). asks_on r || (is_full r && (t && may_spend (history_at limits log) a q))) e ∙ without (asks_on r) (is_full r)

both_false : (x y : Bool) → y ≡ false → (x && y) ≡ false
both_false true y e = e
both_false false y e = refl

pub never_when_spent : (limits : Limits) (log : List Event) (a : ℕ) (q : Request) (r : Answer) → may_spend (history_at limits log) a q ≡ false → comes_again limits log a q r ≡ asks_on r
never_when_spent limits log a q r e =
    ap (λ (t : Bool). asks_on r || (is_full r && t)) (both_false (lasts log) (may_spend (history_at limits log) a q) e) ∙ without (asks_on r) (is_full r)
