-- The ends that came since are explained.
use Rattle.std.proofs.Common.{◌≡◌, ◌⊎◌, ⊎_elim, ℕ, ◌+◌, ℤ, List, [], ◌∷◌, ◌++◌, length, Bool, true, cond, eq-eqb, refl, sym, ap, ◌∙◌, subst, append_assoc, append-nil, length-append, arith, reverse, Option, Some}
use Rattle.rv_event.specs.Recorded.{recorded}
use Rattle.rv_event.specs.declared.entry.Answer.{Answer}
use Rattle.rv_event.specs.declared.entry.Answer.TheVariants as Answers
use Rattle.rv_event.specs.declared.entry.Exit.{Exit}
use Rattle.rv_event.specs.declared.entry.Next.{Next}
use Rattle.rv_event.specs.declared.entry.Next.TheVariants.{Nothing}
use Rattle.rv_event.specs.declared.entry.Recorded.{Recorded}
use Rattle.rv_event.specs.declared.entry.Recorded.TheVariants as Words
use Rattle.rv_event.specs.declared.entry.Request.{Request}
use Rattle.rv_event.specs.declared.entry.Request.TheVariants.{Complete}
use Rattle.rv_fits.specs.Fits.{callee_fits}
use Rattle.rv_exec.specs.Asking.{Along}
use Rattle.rv_exec.specs.Stops.{is_final, stops_bodies}
use Rattle.rv_exec.specs.Tasks.{task_run}
use Rattle.rv_history.specs.declared.limits.Limits.{Limits}
use Rattle.rv_history.specs.Due.{out}
use Rattle.rv_history.specs.History.{History}
use Rattle.rv_history.specs.Legal.{Legal}
use Rattle.rv_turn.specs.Histories.{mine, StartsWith}
use Rattle.rv_turn.specs.Prefixes.{starts_both, mine-append}
use Rattle.rv_exec.specs.Blocks.{operation_run_at}
use Rattle.rv_exec.proofs.Finals.{final_none}
use Rattle.rv_meant.specs.Asks.{recorded_of}
use Rattle.rv_meant.specs.Nested.{Strays}
use Rattle.rv_meant.specs.Settles.{NeverSettles}
use Rattle.rv_meant.specs.Histories.{asks_of, without_last}
use Rattle.rv_meant.specs.Explained.{MeantEnd}
use Rattle.rv_meant.specs.Told.{HasAsked, FitBehind}
use Rattle.rv_meant.proofs.Explaining.{inner_ends, task_ends}
use Rattle.rv_behind.specs.Acting.{entered}
use Rattle.rv_behind.specs.Events.{by, bodies_at, catalogue_of, history_at}
use Rattle.rv_behind.specs.declared.event.Event.{Event}
use Rattle.rv_behind.specs.declared.event.Event.TheVariants.{Asks}
use Rattle.rv_accounts.specs.Seen.{asked_at, but_settles}
use Rattle.rv_accounts.specs.WithoutSettles.{but_settles-append}
use Rattle.rv_accounts.specs.Explained.{ExplainedEnd}
use Rattle.rv_accounts.proofs.Growing.{without_later}
use Rattle.rv_port.specs.Traces.{Passing, Trace, limits_in, noted, noted_if, IsAnswered, EachAnswered, Steps, Went}
use Rattle.rv_port.specs.Composing.{never_first, noted-append}
use Rattle.rv_port.proofs.Actors.{catalogue-append}
use Rattle.rv_port.specs.Held.{asked_so_far, held_by, Owns}
use Rattle.rv_port.proofs.Ends.{IsLentBy, EndsSinceAreExplained}
use Rattle.rv_port.proofs.Fronts.{same_behind, at_own, each_own, before_noted, legal_before}
use Rattle.rv_port.proofs.Accounting.{first_or, compared, FoundIn, each_at, so_far}
use Rattle.rv_port.proofs.Straying.{no_strays}
use Rattle.rv_port.proofs.Finals.{final_is}

-- An end that is recorded was answered Done

abbrev next_or : Option Recorded → Next
next_or (Some (Words.Done next)) = next
next_or other = Nothing

pub done_is : (r : Answer) (next : Next) → recorded r ≡ Some (Words.Done next) → r ≡ Answers.Done next
done_is (Answers.Done n) next e = ap (λ (o : Option Recorded). Answers.Done (next_or o)) e
done_is r next e = absurd (cc e)

-- behind an ask without an act left nothing is recorded
none_noted : (a : ℕ) (behind after : Trace) (q : Request) (r : Answer) (word : Recorded) → recorded r ≡ Some word → noted a (behind ++ (q, r) ∷ after) ≡ [] → ⊥
none_noted a behind after q r word is e =
    not_empty (noted a behind) (noted a after) (Asks a q word)
    (sym (noted-append a behind ((q, r) ∷ after) ∙ ap (λ (o : Option Recorded). noted a behind ++ noted_if o a q (noted a after)) is) ∙ e)
  where
    not_empty : (xs ys : List Event) (d : Event) → xs ++ d ∷ ys ≡ [] → ⊥
    not_empty [] ys d h = cc h
    not_empty (x ∷ xs) ys d h = cc h

-- an own event more is one more
longer : (own xs ys zs : List Event) (d : Event) → own ++ xs ≡ (own ++ (xs ++ ys)) ++ d ∷ zs → ⊥
longer own xs ys zs d e =
    let n : length (own ++ xs) ≡ length ((own ++ (xs ++ ys)) ++ d ∷ zs) = ap length e in
    let l : length (own ++ xs) ≡ length own + length xs = length-append own xs in
    let m : length ((own ++ (xs ++ ys)) ++ d ∷ zs) ≡ length (own ++ (xs ++ ys)) + length (d ∷ zs) = length-append (own ++ (xs ++ ys)) (d ∷ zs) in
    let k : length (own ++ (xs ++ ys)) ≡ length own + length (xs ++ ys) = length-append own (xs ++ ys) in
    let j : length (xs ++ ys) ≡ length xs + length ys = length-append xs ys in
    omega (arith, n, l, m, k, j)

-- the first of a port's steps
steps_front : (v : Passing) (xs ys : Trace) (w : Passing) → Steps v (xs ++ ys) w → (u : Passing) × Steps v xs u
steps_front v [] ys w t = (v, refl)
steps_front v (x ∷ xs) ys w t = let s = steps_front t.0 xs ys w t.2 in (s.0, (t.0, t.1, s.1))

module _ (v w : Passing) (trace : Trace) (log : List Event) (k : IsLentBy v log) (went : Went v trace w) (owned : Owns w)
    (before after : List Event) (scalars : List ℤ) (exit : Exit) (next : Next) (p : StartsWith before v.seen) (e : w.seen ≡ before ++ Asks v.actor (Complete scalars exit) (Words.Done next) ∷ after) where
  abbrev a : ℕ
  a = v.actor

  abbrev limits : Limits
  limits = limits_in v.about

  abbrev own : List Event
  own = but_settles (v.base ++ v.own)

  abbrev the_end : Event
  the_end = Asks v.actor (Complete scalars exit) (Words.Done next)

  abbrev pub at_end : FoundIn a trace (but_settles (mine by a p.0)) (Complete scalars exit) (Words.Done next)
  at_end = at_own v w trace k.owns owned went before after (Complete scalars exit) (Words.Done next) refl p e

  abbrev end_pair : Request × Answer
  end_pair = (Complete scalars exit, at_end.answer)

  each : EachAnswered limits a v.seen w.seen w.left own (at_end.before ++ end_pair ∷ at_end.after)
  each = each_own v w trace k.owns owned went before after (Complete scalars exit) (Words.Done next) refl p e

  noted_before : but_settles (mine by a before) ≡ own ++ noted a at_end.before
  noted_before = before_noted v w trace k.owns owned went before after (Complete scalars exit) (Words.Done next) refl p e

  never : NeverSettles (at_end.before ++ end_pair ∷ at_end.after)
  never = subst (λ (l : Trace). NeverSettles l) at_end.trace_is went.asks

  pub legal_end : Legal (history_at limits before)
  legal_end = legal_before v w trace k.owns owned went before after (Complete scalars exit) (Words.Done next) refl p e

  has : asked_at limits a before ≡ asked_at limits a v.seen ++ recorded_of at_end.before
  has = so_far limits a v.seen w.seen w.left own v.seen before at_end.before (end_pair ∷ at_end.after) (never_first at_end.before (end_pair ∷ at_end.after) never) each went.later (ap but_settles k.owns) (the_end ∷ after, e) noted_before

  abbrev IsDue : Trace → Request → Type 0
  IsDue done q =
      (later : ℕ) × (asks_of a (without_last later (history_at limits before)) ≡ asked_at limits a v.seen ++ recorded_of done) × (stops_bodies (out (without_last later (history_at limits before)) a q) ≡ true)

  module _ (done : Trace) (q : Request) (r : Answer) (behind : Trace) (split : at_end.before ≡ done ++ (q, r) ∷ behind) (final : is_final r ≡ true) where
    abbrev others : Trace
    others = behind ++ end_pair ∷ at_end.after

    here : EachAnswered limits a v.seen w.seen w.left own (done ++ (q, r) ∷ others)
    here = subst (λ (l : Trace). EachAnswered limits a v.seen w.seen w.left own l) (ap (λ (l : Trace). l ++ end_pair ∷ at_end.after) split ∙ append_assoc done ((q, r) ∷ behind) (end_pair ∷ at_end.after)) each

    never_done : NeverSettles done
    never_done = never_first done ((q, r) ∷ behind) (subst (λ (l : Trace). NeverSettles l) split (never_first at_end.before (end_pair ∷ at_end.after) never))

    noted_more : noted a at_end.before ≡ noted a done ++ noted a ((q, r) ∷ behind)
    noted_more = ap (λ (l : Trace). noted a l) split ∙ noted-append a done ((q, r) ∷ behind)

    module _ (x : IsAnswered limits a v.seen (own ++ noted a done) w.seen q r) where
      to_at : StartsWith w.seen x.at
      to_at = subst (λ (o : Option Recorded). StartsWith w.seen (entered x.at a q o)) (final_none r final) x.to

      too_many : (d : Event) (ds : List Event) → x.at ≡ before ++ d ∷ ds → d ≡ the_end → ⊥
      too_many d ds h i =
          let m : but_settles (mine by a x.at) ≡ but_settles (mine by a before) ++ the_end ∷ but_settles (mine by a ds) =
          ap (λ (l : List Event). but_settles (mine by a l)) h ∙ (ap but_settles (mine-append by a before (d ∷ ds)) ∙ (but_settles-append (mine by a before) (mine by a (d ∷ ds))
          ∙ (ap (λ (z : Event). but_settles (mine by a before) ++ but_settles (mine by a (z ∷ ds))) i
          ∙ ap (λ (b : Bool). but_settles (mine by a before) ++ but_settles (cond b (the_end ∷ mine by a ds) (mine by a ds))) (eq-eqb a a refl)))) in
          let one : own ++ noted a done ≡ (own ++ (noted a done ++ noted a ((q, r) ∷ behind))) ++ the_end ∷ but_settles (mine by a ds) =
          sym x.own_is ∙ (m ∙ ap (λ (l : List Event). l ++ the_end ∷ but_settles (mine by a ds)) (noted_before ∙ ap (λ (l : List Event). own ++ l) noted_more)) in
          longer own (noted a done) (noted a ((q, r) ∷ behind)) (but_settles (mine by a ds)) the_end one

      front : (rest : List Event) → x.at ≡ before ++ rest → StartsWith before x.at
      front [] h = ([], sym (ap (λ (l : List Event). l ++ []) h ∙ (append-nil (before ++ []) ∙ append-nil before)))
      front (d ∷ ds) h =
          let z = to_at in
          let both : the_end ∷ after ≡ d ∷ (ds ++ z.0) = same_behind before (the_end ∷ after) (d ∷ (ds ++ z.0)) (sym e ∙ (z.1 ∙ (ap (λ (l : List Event). l ++ z.0) h ∙ append_assoc before (d ∷ ds) z.0))) in
          absurd (too_many d ds h (sym (ap (λ (l : List Event). first_or the_end l) both)))

      at_before : StartsWith before x.at
      at_before = ⊎_elim (λ h. h) (λ h. front h.0 h.1) (compared before x.at (the_end ∷ after) to_at.0 (sym e ∙ to_at.1))

      answered_due : IsDue done q
      answered_due =
          let same : without_last (length (reverse at_before.0)) (history_at limits before) ≡ history_at limits x.at = ap (λ (l : List Event). without_last (length (reverse at_before.0)) (history_at limits l)) at_before.1 ∙ without_later limits x.at at_before.0 in (
            length (reverse at_before.0),
            ap (λ (h : History). asks_of a h) same ∙ so_far limits a v.seen w.seen w.left own v.seen x.at done ((q, r) ∷ others) never_done here went.later (ap but_settles k.owns) to_at x.own_is,
            ap (λ (h : History). stops_bodies (out h a q)) same ∙ sym (final_is (out (history_at limits x.at) a q)) ∙ ap is_final (sym x.due_is) ∙ final,
          )

    is_due : IsDue done q
    is_due = ⊎_elim (λ x. answered_due x) (λ x. absurd (none_noted a behind at_end.after (Complete scalars exit) at_end.answer (Words.Done next) at_end.word_is x.2)) (each_at limits a v.seen w.seen w.left own done q r others here)

  pub had_asked : HasAsked (history_at limits before) a (asked_at limits a v.seen) at_end.before
  had_asked = record { has = has; due = λ done q r behind split final. is_due done q r behind split final }

  pub fit_behind : FitBehind (catalogue_of log) (bodies_at log) (history_at limits before)
  fit_behind =
      let w : StartsWith before log = starts_both log v.seen before k.from p in
      record { fit = k.fit.calls; more = catalogue_of w.0; loaded = ap catalogue_of w.1 ∙ catalogue-append log w.0 }

  pub trace_at : trace ≡ at_end.before ++ (Complete scalars exit, Answers.Done next) ∷ at_end.after
  trace_at = at_end.trace_is ∙ ap (λ (z : Answer). at_end.before ++ (Complete scalars exit, z) ∷ at_end.after) (done_is at_end.answer next at_end.word_is)

  pub end_explained : Strays (callee_fits (catalogue_of log)) at_end.before ⊎ MeantEnd (catalogue_of log) (bodies_at log) (history_at limits before) a scalars exit → ExplainedEnd limits a before scalars exit
  end_explained s =
      let t = steps_front v at_end.before (end_pair ∷ at_end.after) w (subst (λ (l : Trace). Steps v l w) at_end.trace_is went.steps) in
      ⊎_elim (λ h. no_strays log v at_end.before t.0 k.from (never_first at_end.before (end_pair ∷ at_end.after) never) t.1 h) (λ h. record { legal = legal_end; log = log; from = starts_both log v.seen before k.from p; fit = k.fit; explained = h }) s

-- Where a body ran on a port, of an actor that held so many objects, each end that came since is explained.
pub bodies_leave :
    (v w : Passing) (trace : Trace) (log : List Event) (object operation : ℕ) (values components left : List ℤ) (exit : Exit)
    → IsLentBy v log → Went v trace w → Owns w
    → Along (operation_run_at (bodies_at log) (held_by v) object operation values components) trace (exit, left)
    → EndsSinceAreExplained v w
bodies_leave v w trace log object operation values components left exit k went owned run before after scalars ended next p e =
    let f = at_end v w trace log k went owned before after scalars ended next p e in
    end_explained v w trace log k went owned before after scalars ended next p e
    (inner_ends (catalogue_of log) (bodies_at log) (history_at (limits_in v.about) before) v.actor (asked_so_far v) object operation values components left exit f.before f.after scalars ended next
    (fit_behind v w trace log k went owned before after scalars ended next p e)
    (subst (λ (l : Trace). Along (operation_run_at (bodies_at log) (held_by v) object operation values components) l (exit, left)) (trace_at v w trace log k went owned before after scalars ended next p e) run)
    (had_asked v w trace log k went owned before after scalars ended next p e))

-- the same of a task's text, before which its actor held nothing
pub texts_leave :
    (v w : Passing) (trace : Trace) (log : List Event) (budget : ℕ) (exit : Exit)
    → IsLentBy v log → Went v trace w → Owns w → held_by v ≡ 0
    → Along (task_run (bodies_at log) v.actor budget) trace exit
    → EndsSinceAreExplained v w
texts_leave v w trace log budget exit k went owned none run before after scalars ended next p e =
    let f = at_end v w trace log k went owned before after scalars ended next p e in
    end_explained v w trace log k went owned before after scalars ended next p e
    (task_ends (catalogue_of log) (bodies_at log) (history_at (limits_in v.about) before) v.actor budget (asked_so_far v) exit f.before f.after scalars ended next
    (fit_behind v w trace log k went owned before after scalars ended next p e) none
    (subst (λ (l : Trace). Along (task_run (bodies_at log) v.actor budget) l exit) (trace_at v w trace log k went owned before after scalars ended next p e) run)
    (had_asked v w trace log k went owned before after scalars ended next p e))
