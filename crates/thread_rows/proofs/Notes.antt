-- Each step on the channel keeps all notes of one turn.
use Rattle.std.proofs.Common.{◌≡◌, ◌⊎◌, ℕ, zero, suc, List, [], ◌∷◌, ◌++◌, set, Option, Some, None, inl, inr, refl, sym, ◌∙◌, subst}
use mathlib.Core.Option.{some, none}
use lib.ListN.{get_elem?}
use Rattle.crossbeam_channel.specs.Fifo.{Pushes, Pops, Forks}
use Rattle.atomic_table.specs.Seated.{TableId}
use Rattle.rv_turn.specs.Histories.{Each}
use Rattle.rv_turn.specs.Passes.{Noted}
use Rattle.rv_behind.specs.declared.event.Event.{Event}
use Rattle.thread_rows.specs.OneTurn.{IsFor, AreOfOne}

-- what an end knows
abbrev pub Known : Type 0
Known = Option (Noted Event)

abbrev pub Know : TableId → List Known → Type 0
Know turn views = Each (IsFor turn) views

abbrev pub AreOf : TableId → List (Noted Event) → Type 0
AreOf turn notes = Each (λ note. note.turn ≡ turn) notes

one : {A : Type 0} (x y : A) → some x ≡ some y → x ≡ y
one x y e = cc e

no_note : (note : Noted Event) → None ≡ Some note → ⊥
no_note note e = cc e

nothing : {A : Type 0} (x : A) → none ≡ some x → ⊥
nothing x e = cc e

-- who knows nothing is alone
alone : (note : Noted Event) (pass : ℕ) → get_elem? (None ∷ []) pass ≡ some (Some note) → ⊥
alone note zero at = no_note note (one None (Some note) at)
alone note (suc n) at = nothing (Some note) at

knows : (turn : TableId) (views : List Known) (pass : ℕ) (view : Known) → Know turn views → get_elem? views pass ≡ some view → IsFor turn view
knows turn [] pass view all at = absurd (nothing view at)
knows turn (v ∷ views) zero view all at = subst (IsFor turn) (one v view at) all.0
knows turn (v ∷ views) (suc n) view all at = knows turn views n view all.1 at

know_set : (turn : TableId) (views : List Known) (pass : ℕ) (view : Known) → Know turn views → IsFor turn view → Know turn (set views pass view)
know_set turn [] pass view all is = tt
know_set turn (v ∷ views) zero view all is = (is, all.1)
know_set turn (v ∷ views) (suc n) view all is = (all.0, know_set turn views n view all.1 is)

know_more : (turn : TableId) (views : List Known) (view : Known) → Know turn views → IsFor turn view → Know turn (views ++ view ∷ [])
know_more turn [] view all is = (is, tt)
know_more turn (v ∷ views) view all is = (all.0, know_more turn views view all.1 is)

are_more : (turn : TableId) (notes : List (Noted Event)) (note : Noted Event) → AreOf turn notes → note.turn ≡ turn → AreOf turn (notes ++ note ∷ [])
are_more turn [] note all is = (is, tt)
are_more turn (n ∷ notes) note all is = (all.0, are_more turn notes note all.1 is)

-- the first note
at_none : (pass : ℕ) (note : Noted Event) → get_elem? {A = Known} (None ∷ []) pass ≡ some None → (w : Known) × AreOfOne (note ∷ []) (set (None ∷ []) pass w) × (w ≡ Some note)
at_none zero note at = (Some note, inr (note.turn, (refl, tt), (refl, tt)), refl)
at_none (suc k) note at = absurd (nothing {A = Known} None at)

from_none : (n pass : ℕ) (note : Noted Event) → Pushes AreOfOne n pass None note (λ w. w ≡ Some note)
from_none n pass note notes views less holds at = by_rule holds
  where
    by_rule : AreOfOne notes views → (w : Known) × AreOfOne (notes ++ note ∷ []) (set views pass w) × (w ≡ Some note)
    by_rule (inr t) = absurd (knows t.0 views pass None t.2 at)
    by_rule (inl fresh) =
        subst (λ (z : List (Noted Event) × List Known). (w : Known) × AreOfOne (z.0 ++ note ∷ []) (set z.1 pass w) × (w ≡ Some note)) (λ i. (sym fresh.0 i, sym fresh.1 i))
        (at_none pass note (subst (λ (vs : List Known). get_elem? vs pass ≡ some None) fresh.1 at))

pub first_sent : (n pass : ℕ) (view : Known) (note : Noted Event) → view ≡ None → Pushes AreOfOne n pass view note (λ w. w ≡ Some note)
first_sent n pass view note fresh = subst (λ (v : Known). Pushes AreOfOne n pass v note (λ w. w ≡ Some note)) (sym fresh) (from_none n pass note)

-- the next ones
pub sent : (n pass : ℕ) (view : Known) (note : Noted Event) → IsFor note.turn view → Pushes AreOfOne n pass view note (λ w. w ≡ Some note)
sent n pass None note for notes views less holds at = absurd for
sent n pass (Some known) note for notes views less holds at = by_rule holds
  where
    by_rule : AreOfOne notes views → (w : Known) × AreOfOne (notes ++ note ∷ []) (set views pass w) × (w ≡ Some note)
    by_rule (inl fresh) = absurd (alone known pass (subst (λ (vs : List Known). get_elem? vs pass ≡ some (Some known)) fresh.1 at))
    by_rule (inr t) =
        let is : note.turn ≡ t.0 = sym for ∙ knows t.0 views pass (Some known) t.2 at in
        (Some note, inr (t.0, are_more t.0 notes note t.1 is, know_set t.0 views pass (Some note) t.2 is), refl)

came_is : (turn : TableId) (note : Noted Event) (view : Known) → note.turn ≡ turn → IsFor turn view → IsFor note.turn view
came_is turn note None is for = absurd for
came_is turn note (Some known) is for = for ∙ sym is

-- a note that comes
pub came : (pass : ℕ) (view : Known) → Pops AreOfOne pass view (λ note w. (w ≡ view) × IsFor note.turn view)
came pass view note notes views holds at = by_rule holds
  where
    by_rule : AreOfOne (note ∷ notes) views → (w : Known) × AreOfOne notes (set views pass w) × ((w ≡ view) × IsFor note.turn view)
    by_rule (inl fresh) = absurd (cc fresh.0)
    by_rule (inr t) = let for = knows t.0 views pass view t.2 at in
        (view, inr (t.0, t.1.1, know_set t.0 views pass view t.2 for), (refl, came_is t.0 note view t.1.0 for))

-- a pass more
pub parted : (pass : ℕ) (view : Known) (turn : TableId) → IsFor turn view → Forks AreOfOne pass view view view
parted pass None turn for notes views holds at = absurd for
parted pass (Some known) turn for notes views holds at = by_rule holds
  where
    by_rule : AreOfOne notes views → AreOfOne notes (set views pass (Some known) ++ Some known ∷ [])
    by_rule (inl fresh) = absurd (alone known pass (subst (λ (vs : List Known). get_elem? vs pass ≡ some (Some known)) fresh.1 at))
    by_rule (inr t) = let is = knows t.0 views pass (Some known) t.2 at in
        inr (t.0, t.1, know_more t.0 (set views pass (Some known)) (Some known) (know_set t.0 views pass (Some known) t.2 is) is)

-- a note is for who knows it
pub known_for : (note : Noted Event) (view : Known) → view ≡ Some note → IsFor note.turn view
known_for note view is = subst (IsFor note.turn) (sym is) refl
