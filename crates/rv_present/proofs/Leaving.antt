-- The bodies that left their objects unsettled, as one settles its object or leaves one so.
use Rattle.std.proofs.Common.{◌≡◌, ℕ, ◌+◌, ◌-◌, ◌<◌, ◌≤◌, List, [], ◌∷◌, length, get_or, set, map, drop, Some, None, Option, Bool, true, false, cond, arith, ap, subst, sym, ◌∙◌, refl}
use Rattle.std.specs.Prelude.{◌==◌, ◌||◌, is_some, slice_get}
use Rattle.std.specs.List.{filter, list_any}
use Rattle.std.proofs.lemmas.List.{length-set}
use Rattle.rv_object.specs.Actions.{ObjectView}
use Rattle.rv_shape.specs.Shape.{Shape}
use Rattle.rv_event.specs.Past.{closed, without}
use Rattle.rv_event.specs.declared.entry.Body.{Body}
use Rattle.rv_event.proofs.Matching.{by, filter_without, filter_others}
use Rattle.rv_history.specs.Orderly.{Each, is_on}
use Rattle.rv_history.proofs.Arrays.{at_set}
use Rattle.rv_history.proofs.Bodies.{each_first, each_without, none_on, one_less}
use Rattle.rv_history.proofs.Stances.{another, first_actor, itself}
use Rattle.rv_history.proofs.During.{filter_kept, none_ends}
use Rattle.rv_present.specs.declared.bodies.Bodies.{Bodies}
use Rattle.rv_present.specs.Bodies.{IsBodies, IsKnown}
use Rattle.rv_present.specs.Holdings.{action_of, actions_on, idle}
use Rattle.rv_present.specs.Unsettled.{AreAlike, AreUnsettled, Leavers, counted, one_or_none}
use Rattle.rv_present.proofs.UnderWay.{one_fewer}

few_counted : (t : Bool) → counted t ≤ 1
few_counted true = omega arith
few_counted false = omega arith

-- an object that no body left unsettled is settled
pub settled_by : (t : Bool) (n : ℕ) → n ≡ counted t → n ≡ 0 → t ≡ false
settled_by true n is none = absurd (omega (arith, is, none))
settled_by false n is none = refl

-- what an object says
pub any_counted : (o : ℕ) (left : List Body) (t : Bool) → length (filter (is_on o) left) ≡ counted t → list_any (is_on o) left ≡ t
any_counted o left t is = by_test (list_any (is_on o) left) t refl is
  where
    some_on : (bs : List Body) → list_any (is_on o) bs ≡ true → length (filter (is_on o) bs) ≡ 0 → ⊥
    some_on [] e none = cc
    some_on (b ∷ bs) e none = by_first (b.object == o) e none (some_on bs)
      where
        by_first : (u : Bool) → (u || list_any (is_on o) bs) ≡ true → length (cond u (b ∷ filter (is_on o) bs) (filter (is_on o) bs)) ≡ 0 → (list_any (is_on o) bs ≡ true → length (filter (is_on o) bs) ≡ 0 → ⊥) → ⊥
        by_first true f g rest = omega (arith, g)
        by_first false f g rest = rest f g

    by_test : (u t : Bool) → list_any (is_on o) left ≡ u → length (filter (is_on o) left) ≡ counted t → u ≡ t
    by_test true true e n = refl
    by_test false false e n = refl
    by_test true false e n = absurd (some_on left e n)
    by_test false true e n = absurd (omega (arith, n, none_on (is_on o) left e))

pub own_first : (left : List Body) (u : Leavers) (objects : List ObjectView) (a : ℕ) (q : Option Body) → get_or u.bodies a None ≡ q → AreUnsettled left u objects → slice_get (filter (by a) left) 0 ≡ q
own_first left u objects a q is k = ap (λ bs. slice_get bs 0) (k.own a ∙ ap one_or_none is) ∙ by_body q
  where
    by_body : (q : Option Body) → slice_get (one_or_none q) 0 ≡ q
    by_body None = refl
    by_body (Some b) = refl

pub leaver_known : (left : List Body) (u : Leavers) (objects : List ObjectView) (a : ℕ) (b : Body) → get_or u.bodies a None ≡ Some b → AreUnsettled left u objects → (a < length u.bodies) × (b.object < length objects)
leaver_known left u objects a b is k =
    let first = own_first left u objects a (Some b) is k in
    let there = each_first (IsKnown (length u.bodies) (length objects)) a b left k.known first in
    (subst (λ n. n < length u.bodies) (first_actor a b left first) there.0, there.1)

known_as : (n m i j : ℕ) (bs : List Body) → n ≡ i → m ≡ j → Each (IsKnown i j) bs → Each (IsKnown n m) bs
known_as n m i j bs one other k = subst (λ n. Each (IsKnown n m) bs) (sym one) (subst (λ m. Each (IsKnown i m) bs) (sym other) k)

-- An object is settled

pub settled_kept : (left : List Body) (u : Leavers) (objects : List ObjectView) (a : ℕ) (b : Body) (x : ObjectView) → get_or u.bodies a None ≡ Some b → x.unsettled ≡ false → AreUnsettled left u objects →
    AreUnsettled (without a left) (record { bodies = set u.bodies a None; number = u.number - 1 }) (set objects b.object x)
settled_kept left u objects a b x is settled k =
    let first = own_first left u objects a (Some b) is k in
    let there = leaver_known left u objects a b is k in
    let less = one_less (is_on b.object) a b left first (itself b.object) in
    let none : length (filter (is_on b.object) (without a left)) ≡ 0 = omega (arith, less, k.on b.object, few_counted (get_or objects b.object idle).unsettled) in
    record {
      own =
          at_set u.bodies a None None (λ j q. filter (by j) (without a left) ≡ one_or_none q) there.0
          (filter_without a left ∙ ap (drop 1) (k.own a ∙ ap one_or_none is))
          (λ j h. filter_others j a left (λ same. h (sym same)) ∙ k.own j);
      on =
          at_set objects b.object x idle (λ o y. length (filter (is_on o) (without a left)) ≡ counted y.unsettled) there.1
          (none ∙ ap counted (sym settled))
          (λ o h. ap (λ bs. length bs) (filter_kept (is_on o) a b left first (another b.object o h)) ∙ k.on o);
      known =
          known_as (length (set u.bodies a None)) (length (set objects b.object x)) (length u.bodies) (length objects) (without a left) (length-set u.bodies a None) (length-set objects b.object x)
          (each_without (IsKnown (length u.bodies) (length objects)) a left k.known);
      count = omega (arith, k.count, one_fewer a left, ap (λ q. counted (is_some q)) first);
    }

pub nothing_settled : (left : List Body) (u : Leavers) (objects : List ObjectView) (a : ℕ) → get_or u.bodies a None ≡ None → AreUnsettled left u objects → AreUnsettled (without a left) u objects
nothing_settled left u objects a is k =
    subst (λ bs. AreUnsettled bs u objects) (sym (none_ends a left (own_first left u objects a None is k))) k

-- How many there are

pub counted_left : (left : List Body) (u : Leavers) (objects : List ObjectView) (a : ℕ) → AreUnsettled left u objects → u.number ≡ length (without a left) + counted (is_some (get_or u.bodies a None))
counted_left left u objects a k =
    omega (arith, k.count, one_fewer a left, ap (λ q. counted (is_some q)) (own_first left u objects a (get_or u.bodies a None) refl k))

pub closed_fewer : (q : Option ℕ) (bs : List Body) → length (closed q bs) ≤ length bs
closed_fewer None bs = omega arith
closed_fewer (Some a) bs = without_fewer bs
  where
    without_fewer : (bs : List Body) → length (without a bs) ≤ length bs
    without_fewer [] = omega arith
    without_fewer (b ∷ bs) = grind (arith, without_fewer bs)

pub each_closed : (P : Body → Type 0) (q : Option ℕ) (bs : List Body) → Each P bs → Each P (closed q bs)
each_closed P None bs all = all
each_closed P (Some a) bs all = each_without P a bs all

-- The fields beside

pub bodies_alike : (shapes : List Shape) (bs : List Body) (f : Bodies) (objects : List ObjectView) → AreAlike f.objects objects → IsBodies shapes bs f → IsBodies shapes bs (record { stacks = f.stacks; objects = objects; number = f.number })
bodies_alike shapes bs f objects a k = record {
  stacks = k.stacks;
  actions = λ o. a.actions o ∙ k.actions o;
  known = subst (λ n. Each (IsKnown (length f.stacks) n) bs) (sym a.long) k.known;
  count = k.count;
}

-- objects that are as settled as before
pub flags_alike : (left : List Body) (u : Leavers) (objects new : List ObjectView) → length new ≡ length objects → ((o : ℕ) → (get_or new o idle).unsettled ≡ (get_or objects o idle).unsettled) → AreUnsettled left u objects → AreUnsettled left u new
flags_alike left u objects new long flags k = record {
  own = k.own;
  on = λ o. k.on o ∙ ap counted (sym (flags o));
  known = subst (λ n. Each (IsKnown (length u.bodies) n) left) (sym long) k.known;
  count = k.count;
}

pub no_actions : (shapes : List Shape) (o : ℕ) (bs : List Body) → list_any (is_on o) bs ≡ false → actions_on shapes o bs ≡ []
no_actions shapes o bs none = by_list (filter (is_on o) bs) (none_on (is_on o) bs none)
  where
    by_list : (cs : List Body) → length cs ≡ 0 → map (action_of shapes) cs ≡ []
    by_list [] e = refl
    by_list (c ∷ cs) e = absurd (omega (arith, e))

pub none_is : (q : Option Body) → ((b : Body) → q ≡ Some b → ⊥) → q ≡ None
none_is None n = refl
none_is (Some b) n = absurd (n b refl)
