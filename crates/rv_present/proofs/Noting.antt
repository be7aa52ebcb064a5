-- The stances after one more entry.
use Rattle.std.proofs.Common.{◌≡◌, ℕ, ◌<◌, ◌≤◌, List, ◌∷◌, length, get_or, set, Some, None, Option, Bool, true, false, arith, ap, subst, ◌∙◌, refl}
use Rattle.std.specs.Prelude.{◌==◌, if◌then◌else◌}
use Rattle.std.proofs.lemmas.List.{length-set}
use Rattle.rv_shape.specs.Catalogue.{first_of}
use Rattle.rv_event.specs.Past.{stance, stance_of, next_of, if_named, or_else}
use Rattle.rv_event.specs.declared.entry.Entry.{Entry}
use Rattle.rv_event.specs.declared.entry.Entry.TheVariants.{Asked, Load, ListChange}
use Rattle.rv_event.specs.declared.entry.Next.{Next}
use Rattle.rv_event.specs.declared.entry.Next.TheVariants.{Nothing, HandedTo, Dropped}
use Rattle.rv_event.specs.declared.entry.Stance.{Stance}
use Rattle.rv_event.specs.declared.entry.Stance.TheVariants.{Free, HandedOver, DroppedBy}
use Rattle.rv_present.specs.Known.{AreBelow, IsNamedBelow}
use Rattle.rv_history.specs.Owed.{each, dues}
use Rattle.rv_history.proofs.Sums.{each_same}
use Rattle.rv_present.specs.Stances.{AreStances, due_at, due_by, dues_by, noted, settled}
use Rattle.rv_present.proofs.Arrays.{set_at}

own_or : (t : Bool) (s u : Stance) → (if t then s else u) ≡ or_else (if t then Some s else None) u
own_or true s u = refl
own_or false s u = refl

named_or : (t : Bool) (s : Stance) (q : Option Stance) (u : Stance) → (if t then s else or_else q u) ≡ or_else (first_of (if t then Some s else None) q) u
named_or true s q u = refl
named_or false s q u = refl

-- of each of whom an entry speaks
OfNext : (ℕ → Type 0) → Next → Type 0
OfNext P Nothing = Unit {0}
OfNext P (HandedTo n) = P n
OfNext P (Dropped n line) = P n

OfEach : (ℕ → Type 0) → Entry → Type 0
OfEach P (Asked a r w) = P a × OfNext P (next_of (Asked a r w))
OfEach P Load = Unit {0}
OfEach P ListChange = Unit {0}

-- what is noted of an actor is what it is at after the entry
noted_at : (past : List Entry) (e : Entry) (ss : List Stance) (j : ℕ) → OfEach (λ a. a ≡ j → j < length ss) e → AreStances past ss → get_or (noted e ss) j Free ≡ stance j (e ∷ past)
unfolding OfEach OfNext
noted_at past Load ss j some are = are j
noted_at past ListChange ss j some are = are j
noted_at past (Asked a r w) ss j some are = by_next (next_of (Asked a r w)) some.1
  where
    s : Stance
    s = stance_of (Asked a r w)

    own : get_or (set ss a s) j Free ≡ or_else (if a == j then Some s else None) (stance j past)
    own = set_at ss a j s some.0 ∙ ap (λ u. if a == j then s else u) (are j) ∙ own_or (a == j) s (stance j past)

    inside : (n : ℕ) → (n ≡ j → j < length ss) → n ≡ j → j < length (set ss a s)
    inside n some is = let less = some is in omega (arith, less, length-set ss a s)

    by_next : (next : Next) → OfNext (λ a. a ≡ j → j < length ss) next → get_or (settled next (set ss a s)) j Free ≡ or_else (first_of (if_named j next) (if a == j then Some s else None)) (stance j past)
    by_next Nothing some = own
    by_next (HandedTo n) some =
        set_at (set ss a s) n j HandedOver (inside n some) ∙ ap (λ u. if n == j then HandedOver else u) own ∙ named_or (n == j) HandedOver (if a == j then Some s else None) (stance j past)
    by_next (Dropped n line) some =
        set_at (set ss a s) n j (DroppedBy line) (inside n some) ∙ ap (λ u. if n == j then DroppedBy line else u) own ∙ named_or (n == j) (DroppedBy line) (if a == j then Some s else None) (stance j past)

-- where all of whom it speaks have their places
pub noted_are : (past : List Entry) (e : Entry) (ss : List Stance) → AreBelow (length ss) e → AreStances past ss → AreStances (e ∷ past) (noted e ss)
unfolding OfEach OfNext
noted_are past e ss below are j = noted_at past e ss j (by_entry e below) are
  where
    by_next : (next : Next) → IsNamedBelow (length ss) next → OfNext (λ a. a ≡ j → j < length ss) next
    by_next Nothing some = tt
    by_next (HandedTo n) some = λ is. subst (λ m. m < length ss) is some
    by_next (Dropped n line) some = λ is. subst (λ m. m < length ss) is some

    by_entry : (e : Entry) → AreBelow (length ss) e → OfEach (λ a. a ≡ j → j < length ss) e
    by_entry Load below = tt
    by_entry ListChange below = tt
    by_entry (Asked a r w) below = (λ is. subst (λ m. m < length ss) is below.0, by_next (next_of (Asked a r w)) below.1)

-- whomever it speaks of, for the actors that have places
pub noted_below : (past : List Entry) (e : Entry) (ss : List Stance) (j : ℕ) → j < length ss → AreStances past ss → get_or (noted e ss) j Free ≡ stance j (e ∷ past)
unfolding OfEach OfNext
noted_below past e ss j less are = noted_at past e ss j (by_entry e) are
  where
    by_next : (next : Next) → OfNext (λ a. a ≡ j → j < length ss) next
    by_next Nothing = tt
    by_next (HandedTo n) = λ is. less
    by_next (Dropped n line) = λ is. less

    by_entry : (e : Entry) → OfEach (λ a. a ≡ j → j < length ss) e
    by_entry Load = tt
    by_entry ListChange = tt
    by_entry (Asked a r w) = (λ is. less, by_next (next_of (Asked a r w)))

-- what so many actors owe after the entry
pub dues_noted : (past : List Entry) (e : Entry) (ss : List Stance) (n : ℕ) → n ≤ length ss → AreStances past ss → dues_by (noted e ss) n ≡ each n (dues (e ∷ past))
dues_noted past e ss n few are = each_same n (due_by (noted e ss)) (dues (e ∷ past)) (λ j less. ap (due_at j) (noted_below past e ss j (omega (arith, less, few)) are))

pub noted_long : (e : Entry) (ss : List Stance) → length (noted e ss) ≡ length ss
noted_long Load ss = refl
noted_long ListChange ss = refl
noted_long (Asked a r w) ss = by_next (next_of (Asked a r w))
  where
    by_next : (next : Next) → length (settled next (set ss a (stance_of (Asked a r w)))) ≡ length ss
    by_next Nothing = length-set ss a (stance_of (Asked a r w))
    by_next (HandedTo n) = length-set (set ss a (stance_of (Asked a r w))) n HandedOver ∙ length-set ss a (stance_of (Asked a r w))
    by_next (Dropped n line) = length-set (set ss a (stance_of (Asked a r w))) n (DroppedBy line) ∙ length-set ss a (stance_of (Asked a r w))
