-- The versions at which actors were last spoken of, as an entry is added.
use Rattle.std.proofs.Common.{◌≡◌, ◌≢◌, ℕ, ◌<◌, List, [], ◌∷◌, length, get_or, set, replicate, Some, None, Option, Bool, true, false, arith, ap, sym, ◌∙◌, refl}
use Rattle.std.specs.Prelude.{◌==◌, ◌||◌, is_some, if◌then◌else◌}
use Rattle.std.proofs.lemmas.Bool.Decides.{nat_tests}
use Rattle.std.proofs.lemmas.Grind.{get_or-set_at}
use Rattle.std.proofs.lemmas.List.{get_or-set_other, length-set}
use Rattle.rv_shape.specs.Catalogue.{first_of}
use Rattle.rv_event.specs.Past.{if_named, is_named, is_own, named_in, next_of, said, stance_of, until_then}
use Rattle.rv_event.specs.declared.entry.Entry.{Entry}
use Rattle.rv_event.specs.declared.entry.Entry.TheVariants.{Asked, Load, ListChange}
use Rattle.rv_event.specs.declared.entry.Next.{Next}
use Rattle.rv_event.specs.declared.entry.Next.TheVariants.{Nothing, HandedTo, Dropped}
use Rattle.rv_event.specs.declared.entry.Stance.{Stance}
use Rattle.rv_event.specs.declared.entry.Stance.TheVariants.{HandedOver, DroppedBy}
use Rattle.rv_history.specs.History.{changes}
use Rattle.rv_history.proofs.Stances.{same_number}
use Rattle.rv_waiting.proofs.Arrays.{all_alike}
use Rattle.rv_waiting.specs.Limits.{most_actors}
use Rattle.rv_waiting.specs.Versions.{AreVersions, asker, version_then, with_version}

-- at first

pub fresh_are : (v : ℕ) → v ≡ 0 → AreVersions [] (replicate most_actors v)
fresh_are v none a = ap (get_or (replicate most_actors v) a) (sym none) ∙ all_alike most_actors v a ∙ none

-- an entry speaks of its own actor and of the one that it names

test_some : (t : Bool) (s : Stance) → is_some (if t then Some s else None) ≡ t
test_some true s = refl
test_some false s = refl

own_some : (j : ℕ) (e : Entry) → is_some (if is_own j e then Some (stance_of e) else None) ≡ is_named j (asker e)
own_some j (Asked a r w) = test_some (a == j) (stance_of (Asked a r w))
own_some j Load = refl
own_some j ListChange = refl

first_some : (q r : Option Stance) → is_some (first_of q r) ≡ (is_some q || is_some r)
first_some None r = refl
first_some (Some s) r = refl

named_some : (j : ℕ) (next : Next) → is_some (if_named j next) ≡ is_named j (named_in next)
named_some j Nothing = refl
named_some j (HandedTo n) = test_some (n == j) HandedOver
named_some j (Dropped n line) = test_some (n == j) (DroppedBy line)

spoken_of : (j : ℕ) (e : Entry) → is_some (said j e) ≡ (is_named j (named_in (next_of e)) || is_named j (asker e))
spoken_of j e = first_some (if_named j (next_of e)) (if is_own j e then Some (stance_of e) else None) ∙ (λ i. named_some j (next_of e) i || own_some j e i)

-- one place

long : (q : Option ℕ) (v : ℕ) (xs : List ℕ) → length (with_version q v xs) ≡ length xs
long None v xs = refl
long (Some a) v xs = length-set xs a v

at_one : (q : Option ℕ) (v j : ℕ) (xs : List ℕ) → ((a : ℕ) → q ≡ Some a → a < length xs) → get_or (with_version q v xs) j 0 ≡ (if is_named j q then v else get_or xs j 0)
at_one None v j xs known = refl
at_one (Some a) v j xs known = by_test (a == j) refl
  where
    by_test : (t : Bool) → (a == j) ≡ t → get_or (set xs a v) j 0 ≡ (if t then v else get_or xs j 0)
    by_test true is =
        let same : j ≡ a = sym (same_number a j is) in
        get_or-set_at xs a j v 0 same (known a refl)
    by_test false is =
        let other : j ≢ a = grind (arith, nat_tests) in
        get_or-set_other xs a j v 0 other

either : (b c : Bool) (v w : ℕ) → (if b then v else (if c then v else w)) ≡ (if b || c then v else w)
either true c v w = refl
either false c v w = refl

then_was : (t : Bool) (past : List Entry) (a : ℕ) → (if t then changes past else version_then a past) ≡ changes (if t then past else until_then a past)
then_was true past a = refl
then_was false past a = refl

pub told : (e : Entry) (past : List Entry) (v : ℕ) (xs : List ℕ) → length xs ≡ most_actors → v ≡ changes past → ((a : ℕ) → asker e ≡ Some a → a < most_actors) → ((a : ℕ) → named_in (next_of e) ≡ Some a → a < most_actors) → AreVersions past xs →
    AreVersions (e ∷ past) (with_version (named_in (next_of e)) v (with_version (asker e) v xs))
told e past v xs count now own named are j =
    at_one (named_in (next_of e)) v j (with_version (asker e) v xs) (λ a is. omega (arith, named a is, count, long (asker e) v xs))
    ∙ ap (λ x. if is_named j (named_in (next_of e)) then v else x) (at_one (asker e) v j xs (λ a is. omega (arith, own a is, count)))
    ∙ either (is_named j (named_in (next_of e))) (is_named j (asker e)) v (get_or xs j 0)
    ∙ (λ i. if sym (spoken_of j e) i then now i else are j i)
    ∙ then_was (is_some (said j e)) past j
