-- Runs, one after another.
use Rattle.std.proofs.Common.{◌≡◌, ℕ, zero, suc, ◌+◌, ◌*◌, ◌<◌, ◌≤◌, List, [], ◌∷◌, ◌++◌, true, false, refl, sym, ap, subst, arith, mul-le-mul_right, suc-mul, ℤ}
use Rattle.rv_event.specs.declared.entry.Request.{Request}
use Rattle.rv_event.specs.declared.entry.Request.TheVariants as request
use Rattle.rv_event.specs.declared.entry.Answer.{Answer}
use Rattle.rv_event.specs.declared.entry.Exception.TheVariants.{ProgramError}
use Rattle.rv_code.specs.declared.expression.Callee.{Callee}
use Rattle.rv_exec.specs.declared.end.Asked.{Asked}
use Rattle.rv_exec.specs.declared.end.Asked.TheVariants as asked
use Rattle.rv_exec.specs.declared.end.Reply.TheVariants as reply
use Rattle.rv_exec.specs.declared.end.Cause.TheVariants as cause
use Rattle.rv_exec.specs.Asking.{Trace, Asking, ended, asking, and_then, Along, Ran}
use Rattle.rv_exec.specs.Calls.{Outcome, is_past, request_of, replied, resumed, settled, asks, reached, completed, is_stuck, ends_by}

along_then : {A B : Type 0} (w : Asking A) (f : A → Asking B) (a : A) (b : B) (p q : Trace) → Along w p a → Along (f a) q b → Along (and_then w f) (p ++ q) b
along_then {B = B} (ended x) f a b [] q h g = subst (λ y. Along (f y) q b) (sym h) g
along_then (ended x) f a b (r ∷ p) q h g = absurd h
along_then (asking n go) f a b [] q h g = absurd h
along_then (asking n go) f a b (r ∷ p) q h g = (h.0, along_then (go r.1) f a b p q h.1 g)

pub ran_end : {S A : Type 0} (went : S → Trace → S → Type 0) → ((s : S) → went s [] s) → (s : S) (w : Asking A) (a : A) → w ≡ ended a → Ran went s w s a
ran_end went none s w a h = record { trace = []; along = subst (λ v. Along v [] a) (sym h) refl; outside = none s }

module _ {S : Type 0} (went : S → Trace → S → Type 0) (both : (s t u : S) (a b : Trace) → went s a t → went t b u → went s (a ++ b) u) where
  pub ran_then : {A B : Type 0} (s t u : S) (w : Asking A) (f : A → Asking B) (a : A) (b : B) → Ran went s w t a → Ran went t (f a) u b → Ran went s (and_then w f) u b
  ran_then s t u w f a b h g = record { trace = h.trace ++ g.trace; along = along_then w f a b h.trace g.trace h.along g.along; outside = both s t u h.trace g.trace h.outside g.outside }

pub ran_ask : {S A : Type 0} (went : S → Trace → S → Type 0) (s t : S) (q : Request) (r : Answer) (go : Answer → Asking A) (e : A) → went s ((q, r) ∷ []) t → go r ≡ ended e → Ran went s (asking q go) t e
ran_ask went s t q r go e out g = record { trace = (q, r) ∷ []; along = (refl, subst (λ v. Along v [] e) (sym g) refl); outside = out }

-- an ask, and what follows its answer
pub ran_ask_then : {S A : Type 0} (went : S → Trace → S → Type 0) → ((s t u : S) (a b : Trace) → went s a t → went t b u → went s (a ++ b) u) → (s t u : S) (q : Request) (r : Answer) (go : Answer → Asking A) (e : A) → went s ((q, r) ∷ []) t → Ran went t (go r) u e → Ran went s (asking q go) u e
ran_ask_then went both s t u q r go e out g = record { trace = (q, r) ∷ g.trace; along = (refl, g.along); outside = both s t u ((q, r) ∷ []) g.trace out g.outside }

pub ran_eq : {S A : Type 0} {went : S → Trace → S → Type 0} {s t : S} {w v : Asking A} {a : A} → w ≡ v → Ran went s v t a → Ran went s w t a
ran_eq {went = went} {s = s} {t = t} {a = a} h r = subst (λ x. Ran went s x t a) (sym h) r

pub ran_to : {S A : Type 0} {went : S → Trace → S → Type 0} {s t : S} {w : Asking A} {a b : A} → a ≡ b → Ran went s w t a → Ran went s w t b
ran_to {went = went} {s = s} {t = t} {w = w} h r = subst (λ x. Ran went s w t x) h r

-- less of the calls that may nest is lower, whatever is left of the body
pub falls : (k n most a b : ℕ) → k < n → a < most → k * most + a < n * most + b
falls k zero most a b lt small = absurd (omega arith)
falls k (suc n) most a b lt small =
    let le : k ≤ n = omega (arith, lt) in
    let h : k * most ≤ n * most = mul-le-mul_right most le in
    let e : suc n * most ≡ n * most + most = suc-mul n most in
    omega (arith, h, e, small)

-- the end of a body that is asked, and of one that isn't
pub ends_asked : (q : Request) (outcome : Outcome) → is_stuck outcome ≡ false → ends_by q outcome ≡ asking q (λ answer. ended (completed outcome answer))
ends_asked q outcome h = rw h refl

pub ends_unasked : (q : Request) (outcome : Outcome) → is_stuck outcome ≡ true → ends_by q outcome ≡ ended outcome
ends_unasked q outcome h = rw h refl

-- a call that is past the objects that may be held
pub reached_past : (held : ℕ) (c : Callee) (values : List ℤ) → is_past held c ≡ true → reached held c values ≡ ended (asked.Abandoned (cause.Raised ProgramError))
unfolding reached
reached_past held c values h = rw h refl

reached_asks : (held : ℕ) (c : Callee) (values : List ℤ) → is_past held c ≡ false → reached held c values ≡ asks c values
unfolding reached
reached_asks held c values h = rw h refl

module _ {S : Type 0} (went : S → Trace → S → Type 0) (both : (s t u : S) (a b : Trace) → went s a t → went t b u → went s (a ++ b) u) where
  -- one request, whose answer settles it
  pub asked_once : (held : ℕ) (c : Callee) (values : List ℤ) (s t : S) (q : Request) (r : Answer) (e : Asked) → is_past held c ≡ false → q ≡ request_of c values → went s ((q, r) ∷ []) t → replied c r ≡ reply.Settled e → Ran went s (reached held c values) t e
  asked_once held c values s t q r e past is out h =
      let o = subst (λ x. went s ((x, r) ∷ []) t) is out in
      ran_eq (reached_asks held c values past) (ran_ask went s t (request_of c values) r (λ answer. settled c (replied c answer)) e o (ap (settled c) h))

  -- one request, and a resume
  pub asked_twice : (held : ℕ) (c : Callee) (values : List ℤ) (s t u : S) (q : Request) (r again : Answer) (e : Asked) → is_past held c ≡ false → q ≡ request_of c values → went s ((q, r) ∷ []) t → replied c r ≡ reply.Waits → went t ((request.Resume, again) ∷ []) u → e ≡ resumed c again → Ran went s (reached held c values) u e
  asked_twice held c values s t u q r again e past is out h out2 g =
      let o = subst (λ x. went s ((x, r) ∷ []) t) is out in
      ran_eq (reached_asks held c values past) (ran_ask_then went both s t u (request_of c values) r (λ answer. settled c (replied c answer)) e o
      (ran_eq (ap (settled c) h) (ran_ask went t u request.Resume again (λ answer. ended (resumed c answer)) e out2 (ap ended (sym g)))))
