-- The bodies under way, as one starts or ends.
use Rattle.std.proofs.Common.{◌≡◌, ◌≢◌, ℕ, suc, ◌+◌, ◌-◌, ◌<◌, List, [], ◌∷◌, length, get_or, set, map, drop, Some, None, Option, Bool, true, false, cond, arith, ap, subst, sym, ◌∙◌, refl}
use Rattle.std.specs.Prelude.{ℤ, ◌==◌, not, if◌then◌else◌, is_some, slice_get, replicate}
use Rattle.std.specs.List.{filter}
use Rattle.std.proofs.lemmas.Bool.Decides.{nat_tests}
use Rattle.std.proofs.lemmas.Grind.{get_or-set_at}
use Rattle.std.proofs.lemmas.List.{get_or-set_other, length-set}
use Rattle.rv_prio.specs.declared.held.Held.{Held}
use Rattle.rv_object.specs.declared.action.Action.TheVariants.{Shared, Exclusive}
use Rattle.rv_object.specs.Actions.{ObjectView, scalars_after}
use Rattle.rv_shape.specs.Shape.{Shape}
use Rattle.rv_shape.specs.Catalogue.{target, shares}
use Rattle.rv_event.specs.Past.{without, writes}
use Rattle.rv_event.specs.declared.entry.Body.{Body}
use Rattle.rv_event.proofs.Matching.{by}
use Rattle.rv_history.specs.Orderly.{Each}
use Rattle.rv_history.proofs.Bodies.{each_without}
use Rattle.rv_history.proofs.Stances.{same_number, some_is}
use Rattle.rv_history.proofs.During.{none_ends}
use Rattle.rv_present.specs.Ends.{left_by}
use Rattle.rv_present.specs.Holdings.{action_of, held_of, idle}
use Rattle.rv_present.specs.Bodies.{IsBodies, IsKnown}
use Rattle.rv_present.specs.Unsettled.{counted}
use Rattle.rv_present.specs.declared.bodies.Bodies.{Bodies}
use Rattle.rv_present.proofs.Acting.{actions_end}
use Rattle.rv_present.proofs.Holding.{stacks_end}

-- it is one of them
pub each_inner : (P : Body → Type 0) (a : ℕ) (b : Body) (bs : List Body) → slice_get (filter (by a) bs) 0 ≡ Some b → Each P bs → P b
each_inner P a b [] e all = absurd (cc)
each_inner P a b (x ∷ bs) e all = by_test (x.actor == a) (λ f. each_inner P a b bs f all.1) e
  where
    by_test : (t : Bool) → (slice_get (filter (by a) bs) 0 ≡ Some b → P b) → slice_get (cond t (x ∷ filter (by a) bs) (filter (by a) bs)) 0 ≡ Some b → P b
    by_test true rest f = subst P (some_is x b f) all.0
    by_test false rest f = rest f

-- one of an actor is gone, if it has one
pub one_fewer : (a : ℕ) (bs : List Body) → length bs ≡ length (without a bs) + counted (is_some (slice_get (filter (by a) bs) 0))
one_fewer a [] = refl
one_fewer a (x ∷ bs) = by_test (x.actor == a) (one_fewer a bs)
  where
    by_test : (t : Bool) → length bs ≡ length (without a bs) + counted (is_some (slice_get (filter (by a) bs) 0)) → suc (length bs) ≡ length (if t then bs else x ∷ without a bs) + counted (is_some (slice_get (cond t (x ∷ filter (by a) bs) (filter (by a) bs)) 0))
    by_test true rest = omega arith
    by_test false rest = omega (arith, rest)

pub counted_bodies : (shapes : List Shape) (bs : List Body) (found : Bodies) (a : ℕ) → IsBodies shapes bs found → found.number ≡ length (without a bs) + counted (is_some (slice_get (get_or found.stacks a []) 0))
counted_bodies shapes bs found a k =
    omega (arith, k.count, one_fewer a bs, ap counted (first_held (filter (by a) bs)), ap (λ (hs : List Held). counted (is_some (slice_get hs 0))) (k.stacks a))
  where
    first_held : (cs : List Body) → is_some (slice_get (map (held_of shapes) cs) 0) ≡ is_some (slice_get cs 0)
    first_held [] = refl
    first_held (c ∷ cs) = refl

-- A body ends

pub end_kept : (shapes : List Shape) (bs : List Body) (f : Bodies) (a : ℕ) (b : Body) (x : ObjectView) → a < length f.stacks → b.object < length f.objects → slice_get (filter (by a) bs) 0 ≡ Some b →
    (get_or f.objects b.object idle).actions ≡ replicate (length (get_or f.objects b.object idle).actions) (action_of shapes b) →
    (get_or f.objects b.object idle).actions ≡ action_of shapes b ∷ x.actions → IsBodies shapes bs f →
    IsBodies shapes (without a bs) (record { stacks = set f.stacks a (drop 1 (get_or f.stacks a [])); objects = set f.objects b.object x; number = f.number - 1 })
end_kept shapes bs f a b x someone something inner alike is k = record {
  stacks = stacks_end shapes bs f.stacks a someone k.stacks;
  actions = actions_end shapes bs f.objects a b x something k.actions inner alike is;
  known =
      subst (λ n. Each (IsKnown n (length (set f.objects b.object x))) (without a bs)) (sym (length-set f.stacks a (drop 1 (get_or f.stacks a []))))
      (subst (λ n. Each (IsKnown (length f.stacks) n) (without a bs)) (sym (length-set f.objects b.object x)) (each_without (IsKnown (length f.stacks) (length f.objects)) a bs k.known));
  count = omega (arith, k.count, one_fewer a bs, ap (λ q. counted (is_some q)) inner);
}

pub end_none : (shapes : List Shape) (bs : List Body) (f : Bodies) (a : ℕ) → slice_get (filter (by a) bs) 0 ≡ None → IsBodies shapes bs f → IsBodies shapes (without a bs) f
end_none shapes bs f a none k = subst (λ cs. IsBodies shapes cs f) (sym (none_ends a bs none)) k

-- the scalars after an end
kind_writes : (t : Bool) (a : ℕ) (before given : List ℤ) → scalars_after (if t then Shared else Exclusive a) before given ≡ (if not t then given else before)
kind_writes true a before given = refl
kind_writes false a before given = refl

pub end_scalars : (shapes : List Shape) (bs : List Body) (objects : List ObjectView) (a : ℕ) (b : Body) (x : ObjectView) (given : List ℤ) → b.object < length objects → slice_get (filter (by a) bs) 0 ≡ Some b →
    x.scalars ≡ scalars_after (action_of shapes b) (get_or objects b.object idle).scalars given → (o : ℕ) →
    (get_or (set objects b.object x) o idle).scalars ≡ left_by shapes o bs a given (get_or objects o idle).scalars
end_scalars shapes bs objects a b x given some inner is o = by_test (b.object == o) refl ∙ sym (ap (λ (q : Option Body). if writes shapes o q then given else (get_or objects o idle).scalars) inner)
  where
    by_test : (t : Bool) → (b.object == o) ≡ t → (get_or (set objects b.object x) o idle).scalars ≡ (if (if t then not (shares (target shapes b.object b.operation)) else false) then given else (get_or objects o idle).scalars)
    by_test true e =
        let same : o ≡ b.object = sym (same_number b.object o e) in
        ap (λ (y : ObjectView). y.scalars) (get_or-set_at objects b.object o x idle same some) ∙ is ∙ kind_writes (shares (target shapes b.object b.operation)) b.actor (get_or objects b.object idle).scalars given
        ∙ ap (λ n. if not (shares (target shapes b.object b.operation)) then given else (get_or objects n idle).scalars) (sym same)
    by_test false e =
        let other : o ≢ b.object = grind (arith, nat_tests) in
        ap (λ (y : ObjectView). y.scalars) (get_or-set_other objects b.object o x idle other)

-- no variant but None is left
pub none_is : (q : Option Held) → ((h : Held) → q ≡ Some h → ⊥) → q ≡ None
none_is None n = refl
none_is (Some h) n = absurd (n h refl)
