-- Of the answers that a port's body is told none strays.
use Rattle.std.proofs.Common.{◌≡◌, inl, inr, ⊎_elim, List, [], ◌∷◌, ◌++◌, Bool, true, false, refl, ap, ◌∙◌}
use Rattle.rv_event.specs.declared.entry.Request.{Request}
use Rattle.rv_event.specs.declared.entry.Answer.{Answer}
use Rattle.rv_exec.specs.Stops.{is_final, IsUnfit, IsUnfitWoken, unwinds, Unwinds}
use Rattle.rv_fits.specs.Fits.{callee_fits}
use Rattle.rv_turn.specs.Histories.{StartsWith}
use Rattle.rv_turn.specs.Prefixes.{starts_both}
use Rattle.rv_meant.specs.Nested.{StraysWaiting, Strays}
use Rattle.rv_behind.specs.Events.{catalogue_of}
use Rattle.rv_behind.specs.declared.event.Event.{Event}
use Rattle.rv_port.specs.Traces.{Passing, Trace, Tells, Steps}
use Rattle.rv_port.specs.Calls.{StoppedAt}
use Rattle.rv_meant.specs.Settles.{is_settle, NeverSettles}
use Rattle.rv_port.proofs.Endings.{body_final}
use Rattle.rv_port.proofs.Settles.{tells_later}
use Rattle.rv_port.proofs.Stopped.{stop_at}

abbrev pair_or : Request × Answer → Trace → Request × Answer
pair_or x [] = x
pair_or x (y ∷ ys) = y

abbrev rest_of : Trace → Trace
rest_of [] = []
rest_of (y ∷ ys) = ys

none_there : (x : Request × Answer) (before behind : Trace) → [] ≡ before ++ x ∷ behind → ⊥
none_there x [] behind e = cc e
none_there x (y ∷ before) behind e = cc e

-- one ask that stopped by a final answer is that one
one_final : (u : Passing) (pair : Request × Answer) → StoppedAt u (pair ∷ []) → is_final pair.1 ≡ true
one_final u pair s = by_before s.before s.asked_is where
  by_before : (before : Trace) → pair ∷ [] ≡ before ++ (s.request, s.answer) ∷ s.behind → is_final pair.1 ≡ true
  by_before [] e = ap (λ (l : Trace). is_final (pair_or pair l).1) e ∙ body_final s.asker s.after s.request s.answer s.reason
  by_before (y ∷ before) e = absurd (none_there (s.request, s.answer) before s.behind (ap (λ (l : Trace). rest_of l) e))

-- of two, the second of which is no end, it is the second
two_final : (u : Passing) (first second : Request × Answer) → unwinds second.0 ≡ false → StoppedAt u (first ∷ second ∷ []) → is_final second.1 ≡ true
two_final u first second n s = by_before s.before s.asked_is where
  unwinding : (behind : Trace) → second ∷ [] ≡ behind → Unwinds behind → unwinds second.0 ≡ true
  unwinding [] e w = absurd (cc e)
  unwinding (y ∷ ys) e w = ap (λ (l : Trace). unwinds (pair_or second l).0) e ∙ w.0

  by_before : (before : Trace) → first ∷ second ∷ [] ≡ before ++ (s.request, s.answer) ∷ s.behind → is_final second.1 ≡ true
  by_before [] e = absurd (cc (unwinding s.behind (ap (λ (l : Trace). rest_of l) e) s.unwinds, n))
  by_before (y ∷ []) e = ap (λ (l : Trace). is_final (pair_or second (rest_of l)).1) e ∙ body_final s.asker s.after s.request s.answer s.reason
  by_before (y ∷ z ∷ before) e = absurd (none_there (s.request, s.answer) before s.behind (ap (λ (l : Trace). rest_of (rest_of l)) e))

unlike : {X : Type 0} (b : Bool) → b ≡ true → b ≡ false → X
unlike b e f = absurd (cc (e, f))

never_unfit : {X : Type 0} (log : List Event) (u k : Passing) (q : Request) (r : Answer) → is_settle q ≡ false → StartsWith u.seen log → Tells u q r k → IsUnfit (callee_fits (catalogue_of log)) q r → X
never_unfit log u k q r plain later t n = unlike (is_final r) (one_final u (q, r) (stop_at log u ((q, r) ∷ []) k (plain, tt) later (inl (inr (inr n), tt)) (k, t, refl))) n.0

never_unfit_woken : {X : Type 0} (log : List Event) (u m k : Passing) (q p : Request) (r s : Answer) → is_settle q ≡ false → is_settle p ≡ false → StartsWith u.seen log → Tells u q r m → Tells m p s k → IsUnfitWoken (callee_fits (catalogue_of log)) q r p s → X
never_unfit_woken log u m k q p r s plain next later t x n =
    unlike (is_final s) (two_final u (q, r) (p, s) (ap unwinds n.6) (stop_at log u ((q, r) ∷ (p, s) ∷ []) k (plain, (next, tt)) later (inr (inl (n, tt))) (m, t, (k, x, refl)))) n.0

stray_waiting : {X : Type 0} (log : List Event) (u m k : Passing) (q : Request) (r : Answer) (more : Trace) → is_settle q ≡ false → NeverSettles more → StartsWith u.seen log → Tells u q r m → Steps m more k → StraysWaiting (callee_fits (catalogue_of log)) (q, r) more → X
stray_waiting log u m k q r [] plain never later t x n = absurd n
stray_waiting log u m k q r ((p, s) ∷ more) plain never later t x n = never_unfit_woken log u m x.0 q p r s plain never.0 later t x.1 n

pub no_strays : {X : Type 0} (log : List Event) (u : Passing) (trace : Trace) (k : Passing) → StartsWith u.seen log → NeverSettles trace → Steps u trace k → Strays (callee_fits (catalogue_of log)) trace → X
no_strays log u [] k later never t s = absurd s
no_strays log u ((q, r) ∷ more) k later never t s =
    ⊎_elim (λ n. never_unfit log u t.0 q r never.0 later t.1 n)
    (λ h. ⊎_elim (λ n. stray_waiting log u t.0 k q r more never.0 never.1 later t.1 t.2 n)
    (λ n. no_strays log t.0 more k (starts_both log u.seen t.0.seen later (tells_later u t.0 q r t.1)) never.1 t.2 n) h) s
