-- What one act leaves of a seat, from its ticket on. (own)
use Rattle.std.specs.Prelude.{◌≡◌, ℕ, Bool, true, false, List, [], ◌∷◌, ◌++◌, Option, Some, None}
use Rattle.atomic_table.specs.Table.{Me}
use Rattle.atomic_table.specs.Seated.{TableId}
use Rattle.rv_turn.specs.Histories.{mine, StartsWith}
use Rattle.rv_turn.specs.Passes.{Acted, known_of}
use Rattle.rv_turn.specs.Views.{queued, turned, grown, served}
use Rattle.rv_turn.specs.declared.view.View.{View}

module _ {C E A : Type 0} (history : C → List E) (about : C → A) (by : E → ℕ) where
  -- the seat has drawn a ticket and got the turn, and the value is out (own)
  abbrev pub Holds : View E A → C → Me (Option C) (View E A) → Type 0
  Holds v x w = (t : ℕ) × (w ≡ (turned (queued v t) (history x), (0, None) ∷ []))
      × StartsWith (history x) v.seen × StartsWith (history x) v.told
      × (mine by v.actor (history x) ≡ v.base ++ v.own) × (v.about ≡ Some (about x))

module _ {E A : Type 0} (by : E → ℕ) where
  -- the history is as the holder saw it, or has one entry of the holder more (own)
  abbrev pub Changes : View E A → List E → Bool → Type 0
  Changes v after true = (e : E) × (after ≡ v.seen ++ e ∷ []) × (by e ≡ v.actor)
  Changes v after false = after ≡ v.seen

module _ {C E A : Type 0} (by : E → ℕ) where
  -- the value is home again, and the entry is counted if there is one (own)
  abbrev pub Releases : View E A → List E → Bool → Me (Option C) (View E A) → Type 0
  Releases v after true w = (e : E) × (after ≡ v.seen ++ e ∷ []) × (by e ≡ v.actor) × (w ≡ (served (grown v after e), []))
  Releases v after false w = (after ≡ v.seen) × (w ≡ (served v, []))

module _ {E A Q R : Type 0} (by : E → ℕ) (answers : A → List E → ℕ → Q → R → List E → Type 0) where
  -- one act of a seat, as a pass with all acts of the seat shows it (own)
  abbrev pub ActedAt : TableId → View E A → Q → R → View E A → Type 0
  ActedAt turn v q r w = Acted by answers (known_of turn v v.acts) q r (known_of turn w w.acts)
