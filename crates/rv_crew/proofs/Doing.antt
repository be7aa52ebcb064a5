-- Calls and interrupts, one after another.
use Rattle.std.proofs.Common.{◌≡◌, ◌∙◌, ℕ, zero, suc, ◌-◌, ◌<◌, Bool, true, false, List, [], ◌∷◌, ◌++◌, length, refl, sym, subst, add-one, arith}
use Rattle.std.proofs.lemmas.List.{length_push}
use Rattle.std.specs.Prelude.{ℤ}
use Rattle.rv_event.specs.declared.entry.Request.TheVariants.{Call, Fire}
use Rattle.rv_port.specs.declared.reached.Reached.{Reached}
use Rattle.rv_port.specs.Ports.{Porting, PerformedBy}
use Rattle.rv_crew.specs.Tasks.{If, Calls, Fires, goes_on}

when_false : (b : Bool) (more none : Type 0) → b ≡ false → none → If b more none
when_false false more none e t = t
when_false true more none e t = absurd (cc e)

when_true : (b : Bool) (more none : Type 0) → b ≡ true → more → If b more none
when_true true more none e t = t
when_true false more none e t = absurd (cc e)

-- a call that is the last
pub stops : (o p n : ℕ) (values : List ℤ) (v u : Porting) (reached : Reached) → 0 < n → values ≡ [] → PerformedBy v (Call o p values) reached u → goes_on reached ≡ false → Calls o p n v u
stops o p zero values v u reached some none x e = absurd (omega (arith, some))
stops o p (suc n) values v u reached some none x e =
    (reached, u, subst (λ (z : List ℤ). PerformedBy v (Call o p z) reached u) none x, when_false (goes_on reached) (Calls o p n u u) (u ≡ u) e refl)

-- a call, and then the others
pub goes : (o p n : ℕ) (values : List ℤ) (v u w : Porting) (reached : Reached) → 0 < n → values ≡ [] → PerformedBy v (Call o p values) reached u → goes_on reached ≡ true → Calls o p (n - 1) u w → Calls o p n v w
goes o p zero values v u w reached some none x e more = absurd (omega (arith, some))
goes o p (suc n) values v u w reached some none x e more =
    (reached, u, subst (λ (z : List ℤ). PerformedBy v (Call o p z) reached u) none x, when_true (goes_on reached) (Calls o p n u w) (w ≡ u) e (subst (λ (k : ℕ). Calls o p k u w) same more)) where
      same : suc n - 1 ≡ n
      same = omega arith

-- one interrupt more, for one number more that came
pub fires_one : {X : Type 0} (came : List X) (x : X) (v u w : Porting) (reached : Reached) → Fires (length came) v u → PerformedBy u Fire reached w → Fires (length (came ++ x ∷ [])) v w
fires_one came x v u w reached fires fired = subst (λ (n : ℕ). Fires n v w) (sym (length_push came x ∙ add-one (length came))) (reached, u, fires, fired)
