-- One thing asked and then another.
use Rattle.std.proofs.Common.{◌≡◌, ℤ, Bool, true, false, cond, List, Option, Some, None, Result, Ok, Err, sym, subst}
use Rattle.rv_shape.specs.declared.kind.Range.{Range}
use Rattle.rv_shape.specs.Catalogue.{OperationNumber}
use Rattle.rv_shape.specs.Kinds.{holds}
use Rattle.rv_shape.specs.Shape.{Shape}
use Rattle.rv_history.specs.Fitting.{all_fit}
use Rattle.rv_ranged.specs.Ranged.{Stand}
use Rattle.rv_exec.specs.declared.activation.Activation.{Activation}
use Rattle.rv_exec.specs.declared.end.Cause.{Cause}
use Rattle.rv_exec.specs.declared.end.Cause.TheVariants as cause
use Rattle.rv_exec.specs.declared.end.End.{End}
use Rattle.rv_exec.specs.declared.end.End.TheVariants as end
use Rattle.rv_exec.specs.Asking.{Asking, ended, asking, and_then}
use Rattle.rv_exec.specs.Expressions.{on_value, fails}
use Rattle.rv_exec.specs.Statements.{abandons, go_on, again}
use Rattle.rv_exec.specs.World.{Run}
use Rattle.rv_asks.specs.Asks.{next_after, standing_after, Asks, Standing}
use Rattle.rv_asks.proofs.Values.{KeptSlots, component_ranges}

-- Where runs end

-- an abandoned run is where it was, unless its actor is left waiting, or in a body that it called
abbrev pub Left : Standing → Standing → Cause → Type 0
Left here now (cause.Stopped false) = Unit {0}
Left here now other = now ≡ here

-- parameters and components keep to their ranges
abbrev pub IsKept : Stand → Activation → Type 0
IsKept s a = KeptSlots s.parameters a.slots × (all_fit (component_ranges s.components) a.components ≡ true)

abbrev pub GotLeft : {A : Type 0} → (A → Type 0) → Standing → Standing → Result A Cause → Type 0
GotLeft P here now (Ok v) = (now ≡ here) × P v
GotLeft P here now (Err why) = Left here now why

abbrev pub GotEnds : {A : Type 0} → Stand → (A → Type 0) → Standing → Standing → Result A Cause × Activation → Type 0
GotEnds s P here now got = GotLeft P here now got.0 × IsKept s got.1

-- nothing is said of them
abbrev pub Any : List ℤ → Type 0
Any values = Unit {0}

abbrev pub ReturnIn : Option Range → Option ℤ → Type 0
ReturnIn None v = Unit {0}
ReturnIn (Some range) None = Unit {0}
ReturnIn (Some range) (Some v) = holds range v ≡ true

abbrev pub EndLeft : Option Range → Standing → Standing → End → Type 0
EndLeft result here now end.Next = now ≡ here
EndLeft result here now end.Exit = now ≡ here
EndLeft result here now (end.Return v) = (now ≡ here) × ReturnIn result v
EndLeft result here now (end.Abandoned why) = Left here now why

abbrev pub RunEnds : Stand → Standing → Standing → End × Activation → Type 0
RunEnds s here now ran = EndLeft s.result here now ran.0 × IsKept s ran.1

module _ (shapes : List Shape) where
  pub asks_then : {A B : Type 0} (ends : Standing → A → Type 0) (last : Standing → B → Type 0) (next : OperationNumber) (inside : Standing) (what : Asking A) (go : A → Asking B)
      → Asks shapes ends next inside what → ((later : OperationNumber) (now : Standing) (a : A) → ends now a → Asks shapes last later now (go a))
      → Asks shapes last next inside (and_then what go)
  asks_then ends last next inside (ended a) go f g = g next inside a f
  asks_then ends last next inside (asking q more) go f g =
      (f.0, λ answer good. asks_then ends last (next_after next q answer) (standing_after next inside q answer) (more answer) go (f.1 answer good) g)

  pub asks_more : {A : Type 0} (ends last : Standing → A → Type 0) (next : OperationNumber) (inside : Standing) (what : Asking A)
      → ((now : Standing) (a : A) → ends now a → last now a) → Asks shapes ends next inside what → Asks shapes last next inside what
  asks_more ends last next inside (ended a) g f = g inside a f
  asks_more ends last next inside (asking q more) g f =
      (f.0, λ answer good. asks_more ends last (next_after next q answer) (standing_after next inside q answer) (more answer) g (f.1 answer good))

  pub asks_if : {A : Type 0} (ends : Standing → A → Type 0) (next : OperationNumber) (inside : Standing) (k : Bool) (one other : Asking A)
      → Asks shapes ends next inside one → Asks shapes ends next inside other → Asks shapes ends next inside (cond k one other)
  asks_if ends next inside true one other f g = f
  asks_if ends next inside false one other f g = g

  -- where it is the same
  pub asks_here : {A : Type 0} (ends : Standing → A → Type 0) (next : OperationNumber) (here now : Standing) (what : Asking A) → now ≡ here → Asks shapes ends next here what → Asks shapes ends next now what
  asks_here ends next here now what is f = subst (λ (n : Standing). Asks shapes ends next n what) (sym is) f

  module _ (s : Stand) (here : Standing) where
    pub value_goes : {A B : Type 0} (P : A → Type 0) (Q : B → Type 0) (go : A → Activation → Asking (Result B Cause × Activation))
        → ((later : OperationNumber) (v : A) (a : Activation) → P v → IsKept s a → Asks shapes (GotEnds s Q here) later here (go v a))
        → (later : OperationNumber) (now : Standing) (got : Result A Cause × Activation) → GotEnds s P here now got → Asks shapes (GotEnds s Q here) later now (on_value fails go got)
    value_goes P Q go g later now (Ok v, a) e = asks_here (GotEnds s Q here) later here now (go v a) e.0.0 (g later v a e.0.1 e.1)
    value_goes P Q go g later now (Err why, a) e = e

    pub asks_value : {A B : Type 0} (P : A → Type 0) (Q : B → Type 0) (next : OperationNumber) (what : Asking (Result A Cause × Activation)) (go : A → Activation → Asking (Result B Cause × Activation))
        → Asks shapes (GotEnds s P here) next here what
        → ((later : OperationNumber) (v : A) (a : Activation) → P v → IsKept s a → Asks shapes (GotEnds s Q here) later here (go v a))
        → Asks shapes (GotEnds s Q here) next here (and_then what (on_value fails go))
    asks_value P Q next what go f g = asks_then (GotEnds s P here) (GotEnds s Q here) next here what (on_value fails go) f (value_goes P Q go g)

    run_value : {A : Type 0} (P : A → Type 0) (go : A → Activation → Run)
        → ((later : OperationNumber) (v : A) (a : Activation) → P v → IsKept s a → Asks shapes (RunEnds s here) later here (go v a))
        → (later : OperationNumber) (now : Standing) (got : Result A Cause × Activation) → GotEnds s P here now got → Asks shapes (RunEnds s here) later now (on_value abandons go got)
    run_value P go g later now (Ok v, a) e = asks_here (RunEnds s here) later here now (go v a) e.0.0 (g later v a e.0.1 e.1)
    run_value P go g later now (Err why, a) e = e

    pub asks_run : {A : Type 0} (P : A → Type 0) (next : OperationNumber) (what : Asking (Result A Cause × Activation)) (go : A → Activation → Run)
        → Asks shapes (GotEnds s P here) next here what
        → ((later : OperationNumber) (v : A) (a : Activation) → P v → IsKept s a → Asks shapes (RunEnds s here) later here (go v a))
        → Asks shapes (RunEnds s here) next here (and_then what (on_value abandons go))
    asks_run P next what go f g = asks_then (GotEnds s P here) (RunEnds s here) next here what (on_value abandons go) f (run_value P go g)

    pub run_goes : (go : Activation → Run) → ((later : OperationNumber) (a : Activation) → IsKept s a → Asks shapes (RunEnds s here) later here (go a))
        → (later : OperationNumber) (now : Standing) (ran : End × Activation) → RunEnds s here now ran → Asks shapes (RunEnds s here) later now (go_on go ran)
    run_goes go g later now (end.Next, a) e = asks_here (RunEnds s here) later here now (go a) e.0 (g later a e.1)
    run_goes go g later now (end.Exit, a) e = e
    run_goes go g later now (end.Return v, a) e = e
    run_goes go g later now (end.Abandoned why, a) e = e

    pub asks_next : (next : OperationNumber) (what : Run) (go : Activation → Run) → Asks shapes (RunEnds s here) next here what
        → ((later : OperationNumber) (a : Activation) → IsKept s a → Asks shapes (RunEnds s here) later here (go a))
        → Asks shapes (RunEnds s here) next here (and_then what (go_on go))
    asks_next next what go f g = asks_then (RunEnds s here) (RunEnds s here) next here what (go_on go) f (run_goes go g)

    turn_goes : (go : Activation → Run) → ((later : OperationNumber) (a : Activation) → IsKept s a → Asks shapes (RunEnds s here) later here (go a))
        → (later : OperationNumber) (now : Standing) (ran : End × Activation) → RunEnds s here now ran → Asks shapes (RunEnds s here) later now (again go ran)
    turn_goes go g later now (end.Next, a) e = asks_here (RunEnds s here) later here now (go a) e.0 (g later a e.1)
    turn_goes go g later now (end.Exit, a) e = e
    turn_goes go g later now (end.Return v, a) e = e
    turn_goes go g later now (end.Abandoned why, a) e = e

    pub asks_again : (next : OperationNumber) (what : Run) (go : Activation → Run) → Asks shapes (RunEnds s here) next here what
        → ((later : OperationNumber) (a : Activation) → IsKept s a → Asks shapes (RunEnds s here) later here (go a))
        → Asks shapes (RunEnds s here) next here (and_then what (again go))
    asks_again next what go f g = asks_then (RunEnds s here) (RunEnds s here) next here what (again go) f (turn_goes go g)
