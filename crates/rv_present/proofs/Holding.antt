-- What an actor holds, as a body starts or ends.
use Rattle.std.proofs.Common.{◌≡◌, ℕ, ◌<◌, List, [], ◌∷◌, length, get_or, set, map, max, drop, Some, None, Option, Bool, true, false, cond, ap, sym, ◌∙◌, refl}
use Rattle.std.specs.Prelude.{◌==◌, ◌||◌, slice_get}
use Rattle.std.specs.List.{filter, list_any}
use Rattle.rv_prio.specs.Priority.{greatest, active_priority}
use Rattle.rv_prio.specs.declared.held.Held.{Held}
use Rattle.rv_shape.specs.Shape.{Shape}
use Rattle.rv_shape.specs.Catalogue.{ceiling}
use Rattle.rv_event.specs.Past.{without}
use Rattle.rv_event.specs.declared.entry.Body.{Body}
use Rattle.rv_event.proofs.Matching.{by, filter_without, filter_others}
use Rattle.rv_history.proofs.Arrays.{at_set}
use Rattle.rv_history.proofs.Stances.{same_number}
use Rattle.rv_present.specs.Holdings.{holdings, held_of}
use Rattle.rv_present.specs.Bodies.{AreStacks}

map_drop : (shapes : List Shape) (bs : List Body) → map (held_of shapes) (drop 1 bs) ≡ drop 1 (map (held_of shapes) bs)
map_drop shapes [] = refl
map_drop shapes (b ∷ bs) = refl

pub stacks_end : (shapes : List Shape) (bs : List Body) (stacks : List (List Held)) (a : ℕ) → a < length stacks → AreStacks shapes bs stacks →
    AreStacks shapes (without a bs) (set stacks a (drop 1 (get_or stacks a [])))
stacks_end shapes bs stacks a some are =
    at_set stacks a (drop 1 (get_or stacks a [])) [] (λ j x. x ≡ holdings shapes j (without a bs)) some
    (ap (drop 1) (are a) ∙ sym (map_drop shapes (filter (by a) bs)) ∙ ap (map (held_of shapes)) (sym (filter_without a bs)))
    (λ j h. are j ∙ ap (map (held_of shapes)) (sym (filter_others j a bs (λ is. h (sym is)))))

-- the body that is on top of an actor's stack
some_held : Held → Option Held → Held
some_held d None = d
some_held d (Some h) = h

some_top : (x y : Held) → (let q : Option Held = Some x in q ≡ Some y) → x ≡ y
unfolding some_held
some_top x y f = ap (some_held x) f

abbrev pub body_of : ℕ → Held → Body
body_of a h = record { actor = a; object = h.object; operation = h.operation }

pub inner_body : (shapes : List Shape) (a : ℕ) (bs : List Body) (h : Held) → slice_get (holdings shapes a bs) 0 ≡ Some h → slice_get (filter (by a) bs) 0 ≡ Some (body_of a h)
inner_body shapes a [] h e = absurd (cc)
inner_body shapes a (b ∷ bs) h e = by_test (b.actor == a) refl (inner_body shapes a bs h) e
  where
    by_test : (t : Bool) → (b.actor == a) ≡ t → (slice_get (holdings shapes a bs) 0 ≡ Some h → slice_get (filter (by a) bs) 0 ≡ Some (body_of a h)) → slice_get (map (held_of shapes) (cond t (b ∷ filter (by a) bs) (filter (by a) bs))) 0 ≡ Some h → slice_get (cond t (b ∷ filter (by a) bs) (filter (by a) bs)) 0 ≡ Some (body_of a h)
    by_test true is rest f =
        let top : held_of shapes b ≡ h = some_top (held_of shapes b) h f in
        let own : b.actor ≡ a = same_number b.actor a is in
        λ i. Some (record { actor = own i; object = (top i).object; operation = (top i).operation })
    by_test false is rest f = rest f

no_body : (shapes : List Shape) (bs : List Body) → slice_get (map (held_of shapes) bs) 0 ≡ None → bs ≡ []
no_body shapes [] e = refl
no_body shapes (b ∷ bs) e = absurd (cc)

pub no_inner : (shapes : List Shape) (a : ℕ) (bs : List Body) → slice_get (holdings shapes a bs) 0 ≡ None → slice_get (filter (by a) bs) 0 ≡ None
no_inner shapes a bs e = ap (λ cs. slice_get cs 0) (no_body shapes (filter (by a) bs) e)

-- What a stack says of what its actor holds

pub holds_is : (shapes : List Shape) (object : ℕ) (bs : List Body) → list_any (λ held. held.object == object) (map (held_of shapes) bs) ≡ list_any (λ b. b.object == object) bs
holds_is shapes object [] = refl
holds_is shapes object (b ∷ bs) = ap (λ t. (b.object == object) || t) (holds_is shapes object bs)

pub active_is : (shapes : List Shape) (base : ℕ) (bs : List Body) → active_priority base (map (held_of shapes) bs) ≡ greatest base (map (λ b. ceiling shapes b.object) bs)
active_is shapes base [] = refl
active_is shapes base (b ∷ bs) = ap (λ n. max (ceiling shapes b.object) n) (active_is shapes base bs)
