-- The actions on an object, as a body starts or ends.
use Rattle.std.proofs.Common.{◌≡◌, ℕ, suc, ◌+◌, ◌<◌, ◌≤◌, List, [], ◌∷◌, length, get_or, set, map, drop, Some, Bool, true, false, cond, arith, ap, sym, ◌∙◌, refl}
use Rattle.std.specs.Prelude.{◌==◌, ◌||◌, slice_get, replicate}
use Rattle.std.specs.List.{filter}
use Rattle.std.proofs.lemmas.List.{length-map}
use Rattle.rv_object.specs.declared.action.Action.{Action}
use Rattle.rv_object.specs.declared.action.Action.TheVariants.{Shared, Exclusive}
use Rattle.rv_object.specs.Actions.{ObjectView, is_under_way, same_action}
use Rattle.rv_shape.specs.Shape.{Shape}
use Rattle.rv_event.specs.Past.{without}
use Rattle.rv_event.specs.declared.entry.Body.{Body}
use Rattle.rv_event.proofs.Matching.{by}
use Rattle.rv_history.specs.Orderly.{is_on, Each}
use Rattle.rv_history.proofs.Arrays.{at_set}
use Rattle.rv_history.proofs.Answered.{off}
use Rattle.rv_history.proofs.Bodies.{one_less, each_without}
use Rattle.rv_history.proofs.Stances.{itself, another, some_is}
use Rattle.rv_history.proofs.During.{filter_kept}
use Rattle.rv_present.specs.Holdings.{actions_on, action_of, idle}
use Rattle.rv_present.specs.Bodies.{AreActions}

abbrev pub Alike : List Shape → (Body → Bool) → Action → Body → Type 0
Alike shapes p x b = p b ≡ true → action_of shapes b ≡ x

to_each : (shapes : List Shape) (p : Body → Bool) (x : Action) (bs : List Body) → map (action_of shapes) (filter p bs) ≡ replicate (length (filter p bs)) x → Each (Alike shapes p x) bs
to_each shapes p x [] e = tt
to_each shapes p x (b ∷ bs) e = by_test (p b) refl e (to_each shapes p x bs)
  where
    by_test : (t : Bool) → p b ≡ t → map (action_of shapes) (cond t (b ∷ filter p bs) (filter p bs)) ≡ replicate (length (cond t (b ∷ filter p bs) (filter p bs))) x →
        (map (action_of shapes) (filter p bs) ≡ replicate (length (filter p bs)) x → Each (Alike shapes p x) bs) → Each (Alike shapes p x) (b ∷ bs)
    by_test true is f rest = ((λ _. ap (λ l. get_or l 0 x) f), rest (ap (drop 1) f))
    by_test false is f rest = ((λ g. absurd (off (sym is ∙ g))), rest f)

from_each : (shapes : List Shape) (p : Body → Bool) (x : Action) (bs : List Body) → Each (Alike shapes p x) bs → map (action_of shapes) (filter p bs) ≡ replicate (length (filter p bs)) x
from_each shapes p x [] all = refl
from_each shapes p x (b ∷ bs) all = by_test (p b) refl (from_each shapes p x bs all.1)
  where
    by_test : (t : Bool) → p b ≡ t → map (action_of shapes) (filter p bs) ≡ replicate (length (filter p bs)) x →
        map (action_of shapes) (cond t (b ∷ filter p bs) (filter p bs)) ≡ replicate (length (cond t (b ∷ filter p bs) (filter p bs))) x
    by_test true is rest = λ i. all.0 is i ∷ rest i
    by_test false is rest = rest

length_actions : (shapes : List Shape) (bs : List Body) → length (map (action_of shapes) bs) ≡ length bs
length_actions shapes [] = refl
length_actions shapes (b ∷ bs) = ap suc (length_actions shapes bs)

tail_is : (x : Action) (all rest : List Action) (n m : ℕ) → all ≡ replicate n x → all ≡ x ∷ rest → n ≡ suc m → rest ≡ replicate m x
tail_is x all rest n m alike is more = ap (drop 1) (sym is ∙ alike ∙ ap (λ k. replicate k x) more)

-- those on the object are alike, so it is the same which of them ends
ends_own : (shapes : List Shape) (bs : List Body) (o a : ℕ) (b : Body) (all rest : List Action) → all ≡ actions_on shapes o bs → slice_get (filter (by a) bs) 0 ≡ Some b → (b.object == o) ≡ true →
    all ≡ replicate (length all) (action_of shapes b) → all ≡ action_of shapes b ∷ rest → rest ≡ actions_on shapes o (without a bs)
ends_own shapes bs o a b all rest are inner on alike is =
    let x : Action = action_of shapes b in
    let count : length all ≡ length (filter (is_on o) bs) = ap (λ l. length l) are ∙ length_actions shapes (filter (is_on o) bs) in
    let less : length (filter (is_on o) (without a bs)) + 1 ≡ length (filter (is_on o) bs) = one_less (is_on o) a b bs inner on in
    let before : map (action_of shapes) (filter (is_on o) bs) ≡ replicate (length (filter (is_on o) bs)) x = sym are ∙ alike ∙ ap (λ n. replicate n x) count in
    let after : map (action_of shapes) (filter (is_on o) (without a bs)) ≡ replicate (length (filter (is_on o) (without a bs))) x =
    from_each shapes (is_on o) x (without a bs) (each_without (Alike shapes (is_on o) x) a bs (to_each shapes (is_on o) x bs before)) in
    let more : length all ≡ suc (length (filter (is_on o) (without a bs))) = omega (arith, count, less) in
    tail_is x all rest (length all) (length (filter (is_on o) (without a bs))) alike is more ∙ sym after

pub actions_end : (shapes : List Shape) (bs : List Body) (objects : List ObjectView) (a : ℕ) (b : Body) (x : ObjectView) → b.object < length objects → AreActions shapes bs objects →
    slice_get (filter (by a) bs) 0 ≡ Some b →
    (get_or objects b.object idle).actions ≡ replicate (length (get_or objects b.object idle).actions) (action_of shapes b) →
    (get_or objects b.object idle).actions ≡ action_of shapes b ∷ x.actions → AreActions shapes (without a bs) (set objects b.object x)
actions_end shapes bs objects a b x some are inner alike is =
    at_set objects b.object x idle (λ j y. y.actions ≡ actions_on shapes j (without a bs)) some
    (ends_own shapes bs b.object a b (get_or objects b.object idle).actions x.actions (are b.object) inner (itself b.object) alike is)
    (λ j h. are j ∙ ap (map (action_of shapes)) (sym (filter_kept (is_on j) a b bs inner (another b.object j h))))

same_self : (x : Action) → same_action x x ≡ true
same_self Shared = refl
same_self (Exclusive actor) = itself actor

or_more : (s t : Bool) → t ≡ true → (s || t) ≡ true
or_more true t e = refl
or_more false t e = e

pub in_way : (shapes : List Shape) (a : ℕ) (b : Body) (bs : List Body) → slice_get (filter (by a) bs) 0 ≡ Some b → is_under_way (action_of shapes b) (actions_on shapes b.object bs) ≡ true
in_way shapes a b [] e = absurd (cc)
in_way shapes a b (x ∷ bs) e = by_test (x.actor == a) (in_way shapes a b bs) e
  where
    by_object : (t : Bool) → is_under_way (action_of shapes b) (actions_on shapes b.object bs) ≡ true → is_under_way (action_of shapes b) (map (action_of shapes) (cond t (x ∷ filter (is_on b.object) bs) (filter (is_on b.object) bs))) ≡ true
    by_object true f = or_more (same_action (action_of shapes b) (action_of shapes x)) (is_under_way (action_of shapes b) (actions_on shapes b.object bs)) f
    by_object false f = f

    by_test : (t : Bool) → (slice_get (filter (by a) bs) 0 ≡ Some b → is_under_way (action_of shapes b) (actions_on shapes b.object bs) ≡ true) → slice_get (cond t (x ∷ filter (by a) bs) (filter (by a) bs)) 0 ≡ Some b → is_under_way (action_of shapes b) (map (action_of shapes) (cond (x.object == b.object) (x ∷ filter (is_on b.object) bs) (filter (is_on b.object) bs))) ≡ true
    by_test true rest f =
        let same : x ≡ b = some_is x b f in
        let here : (x.object == b.object) ≡ true = ap (λ (y : Body). y.object == b.object) same ∙ itself b.object in
        ap (λ t. is_under_way (action_of shapes b) (map (action_of shapes) (cond t (x ∷ filter (is_on b.object) bs) (filter (is_on b.object) bs)))) here
        ∙ ap (λ t. t || is_under_way (action_of shapes b) (actions_on shapes b.object bs)) (ap (λ (y : Body). same_action (action_of shapes b) (action_of shapes y)) same ∙ same_self (action_of shapes b))
    by_test false rest f = by_object (x.object == b.object) (rest f)

-- how many are on an object
filter_fewer : (p : Body → Bool) (bs : List Body) → length (filter p bs) ≤ length bs
filter_fewer p [] = omega arith
filter_fewer p (b ∷ bs) = by_test (p b) (filter_fewer p bs)
  where
    by_test : (t : Bool) → length (filter p bs) ≤ length bs → length (cond t (b ∷ filter p bs) (filter p bs)) ≤ suc (length bs)
    by_test true h = omega (arith, h)
    by_test false h = omega (arith, h)

pub few_actions : (shapes : List Shape) (o : ℕ) (bs : List Body) → length (actions_on shapes o bs) ≤ length bs
few_actions shapes o bs = omega (arith, length-map (filter (is_on o) bs) (action_of shapes), filter_fewer (is_on o) bs)
