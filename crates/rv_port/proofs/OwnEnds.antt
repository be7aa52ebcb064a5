-- The end of a body that a port started is explained.
use Rattle.std.proofs.Common.{◌≡◌, ⊎_elim, ℕ, ◌+◌, ◌<◌, ◌≤◌, ℤ, List, [], ◌∷◌, ◌++◌, length, true, sym, ap, ◌∙◌, subst, append_assoc, arith, reverse, Option}
use Rattle.rv_event.specs.declared.entry.Answer.{Answer}
use Rattle.rv_event.specs.declared.entry.Answer.TheVariants as Answers
use Rattle.rv_event.specs.declared.entry.Exit.{Exit}
use Rattle.rv_event.specs.declared.entry.Next.{Next}
use Rattle.rv_event.specs.declared.entry.Recorded.{Recorded}
use Rattle.rv_event.specs.declared.entry.Request.{Request}
use Rattle.rv_exec.specs.Stops.{is_final, stops_bodies}
use Rattle.rv_exec.proofs.Finals.{final_none}
use Rattle.rv_history.specs.declared.limits.Limits.{Limits}
use Rattle.rv_history.specs.Due.{out}
use Rattle.rv_history.specs.History.{History}
use Rattle.rv_history.specs.Legal.{Legal}
use Rattle.rv_turn.specs.Histories.{mine, StartsWith}
use Rattle.rv_turn.specs.Prefixes.{starts_self, starts_both}
use Rattle.rv_meant.specs.Asks.{held_behind, HoldsMore, recorded_of}
use Rattle.rv_meant.specs.Histories.{asks_of, without_last}
use Rattle.rv_meant.specs.Explained.{StartsBody}
use Rattle.rv_meant.specs.Told.{HasAsked}
use Rattle.rv_meant.specs.Settles.{NeverSettles}
use Rattle.rv_meant.proofs.Explaining.{outer_ends}
use Rattle.rv_behind.specs.Acting.{entered}
use Rattle.rv_behind.specs.Events.{by, bodies_at, catalogue_of, history_at}
use Rattle.rv_behind.specs.declared.event.Event.{Event}
use Rattle.rv_accounts.specs.Seen.{asked_at, but_settles}
use Rattle.rv_accounts.specs.Explained.{ExplainedEnd}
use Rattle.rv_accounts.proofs.Growing.{without_later}
use Rattle.rv_port.specs.Traces.{Passing, Trace, limits_in, noted, IsAnswered, EachAnswered, Asked}
use Rattle.rv_port.specs.Composing.{each_both, never_first, owned_then}
use Rattle.rv_port.proofs.Actors.{catalogue-append}
use Rattle.rv_port.proofs.Ends.{RanSo, given_at}
use Rattle.rv_port.proofs.Accounting.{each_at, so_far}
use Rattle.rv_port.proofs.Straying.{no_strays}
use Rattle.rv_port.proofs.Finals.{final_is}

no_act : (n m k t : ℕ) → n + 1 ≡ m → m + t ≡ k → k ≡ 0 → ⊥
no_act n m k t e f g = omega (arith, e, f, g)

no_more_left : (n : ℕ) → n + 0 ≤ n
no_more_left n = omega arith

module _ (u body w : Passing) (trace : Trace) (log : List Event) (early opening : Trace) (object operation : ℕ) (values components left : List ℤ) (exit : Exit)
    (request : Request) (next : Next) (k : RanSo u log early opening object operation values components left exit trace body) (x : Asked body request (Answers.Done next) w) where
  abbrev a : ℕ
  a = u.actor

  abbrev limits : Limits
  limits = limits_in u.about

  abbrev own : List Event
  own = but_settles (u.base ++ u.own)

  at_mine : but_settles (mine by a x.at) ≡ own ++ noted a trace
  at_mine =
      ap but_settles (ap (λ (n : ℕ). mine by n x.at) (sym (ap (λ (z : Passing). z.actor) k.went.same)) ∙ x.owned)
      ∙ owned_then u body trace (ap (λ (z : Passing). z.base) k.went.same) k.went.grew

  from_start : StartsWith x.at u.seen
  from_start = starts_both u.seen body.seen x.at k.went.later x.from

  each : EachAnswered limits a u.seen x.at body.left own (trace ++ [])
  each = each_both limits a u.seen body.seen x.at body.left body.left own trace [] k.went.later x.from (no_more_left body.left) k.went.each tt

  has : asked_at limits a x.at ≡ asked_at limits a u.seen ++ recorded_of trace
  has = so_far limits a u.seen x.at body.left own u.seen x.at trace [] k.went.asks each from_start (ap but_settles k.lent.owns) (starts_self x.at) at_mine

  abbrev IsDue : Trace → Request → Type 0
  IsDue done q =
      (later : ℕ) × (asks_of a (without_last later (history_at limits x.at)) ≡ asked_at limits a u.seen ++ recorded_of done) × (stops_bodies (out (without_last later (history_at limits x.at)) a q) ≡ true)

  module _ (done : Trace) (q : Request) (r : Answer) (behind : Trace) (split : trace ≡ done ++ (q, r) ∷ behind) (final : is_final r ≡ true) where
    here : EachAnswered limits a u.seen x.at body.left own (done ++ (q, r) ∷ (behind ++ []))
    here = subst (λ (l : Trace). EachAnswered limits a u.seen x.at body.left own l) (ap (λ (l : Trace). l ++ []) split ∙ append_assoc done ((q, r) ∷ behind) []) each

    answered_due : IsAnswered limits a u.seen (own ++ noted a done) x.at q r → IsDue done q
    answered_due y =
        let to_at : StartsWith x.at y.at = subst (λ (o : Option Recorded). StartsWith x.at (entered y.at a q o)) (final_none r final) y.to in
        let same : without_last (length (reverse to_at.0)) (history_at limits x.at) ≡ history_at limits y.at = ap (λ (l : List Event). without_last (length (reverse to_at.0)) (history_at limits l)) to_at.1 ∙ without_later limits y.at to_at.0 in (
          length (reverse to_at.0),
          ap (λ (h : History). asks_of a h) same ∙ so_far limits a u.seen x.at body.left own u.seen y.at done ((q, r) ∷ (behind ++ [])) (never_first done ((q, r) ∷ behind) (subst (λ (l : Trace). NeverSettles l) split k.went.asks)) here from_start (ap but_settles k.lent.owns) to_at y.own_is,
          ap (λ (h : History). stops_bodies (out h a q)) same ∙ sym (final_is (out (history_at limits y.at) a q)) ∙ ap is_final (sym y.due_is) ∙ final,
        )

    is_due : IsDue done q
    is_due = ⊎_elim (λ y. answered_due y) (λ y. absurd (no_act w.left x.before.left body.left (length x.in_vain.times) x.act x.in_vain.acts y.1)) (each_at limits a u.seen x.at body.left own done q r (behind ++ []) here)

  had_asked : HasAsked (history_at limits x.at) a (asked_at limits a u.seen) trace
  had_asked = record { has = has; due = λ done q r behind split final. is_due done q r behind split final }

  legal_at : Legal (history_at limits x.at)
  legal_at = subst (λ (l : Limits). Legal (history_at l x.at)) (ap (λ (z : Passing). limits_in z.about) k.went.same) x.legal

  not_left : HoldsMore trace → ⊥
  not_left h = let n : ℕ = held_behind 0 (early ++ opening) in let same : held_behind n trace ≡ n = k.back in let more : n < held_behind n trace = h n in omega (arith, same, more)

  pub own_end : StartsBody (catalogue_of x.at) u.actor opening object operation values components → ExplainedEnd limits a x.at (given_at x.at object operation left) exit
  own_end o =
      let z : StartsWith x.at log = starts_both log u.seen x.at k.lent.from from_start in
      ⊎_elim (λ h. no_strays log u trace body k.lent.from k.went.asks k.went.steps h)
      (λ h. ⊎_elim (λ m. absurd (not_left m)) (λ m. record { legal = legal_at; log = log; from = z; fit = k.lent.fit; explained = m }) h)
      (outer_ends (catalogue_of log) (bodies_at log) (history_at limits x.at) a early opening object operation values components left exit trace
      (record { fit = k.lent.fit.calls; more = catalogue_of z.0; loaded = ap catalogue_of z.1 ∙ catalogue-append log z.0 })
      k.recorded k.loaded o k.along
      (subst (λ (l : Trace). HasAsked (history_at limits x.at) a l trace) k.asked had_asked))

-- The end of that body, which is answered Done, is explained.
pub own_ends :
    (u body w : Passing) (trace : Trace) (log : List Event) (early opening : Trace) (object operation : ℕ) (values components left : List ℤ) (exit : Exit)
    (request : Request) (next : Next)
    → RanSo u log early opening object operation values components left exit trace body
    → (x : Asked body request (Answers.Done next) w)
    → StartsBody (catalogue_of x.at) u.actor opening object operation values components
    → ExplainedEnd (limits_in u.about) u.actor x.at (given_at x.at object operation left) exit
own_ends u body w trace log early opening object operation values components left exit request next k x o =
    own_end u body w trace log early opening object operation values components left exit request next k x o
