-- What is known of one declaration is found by halves, where each stands behind the one before it.
use Rattle.std.proofs.Common.{◌≡◌, ◌∙◌, refl, sym, ap, subst, arith, ℕ, suc, ◌+◌, ◌<◌, ◌≤◌, Bool, true, false, List, [], ◌∷◌, ◌++◌, Option, Some, None}
use Rattle.std.proofs.lemmas.Bool.Decides.{nat_tests}
use Rattle.std.proofs.lemmas.List.{take-append-drop, take_all, drop_all}
use Rattle.std.proofs.Math.Seq.{drop-cons}
use Rattle.std.specs.Prelude.{◌==◌, ◌-◌, if◌then◌else◌, nat_lt, slice_index_or, take, drop, length, pos}
use Rattle.rv_shape.specs.declared.kind.ValueType.TheVariants.{Integer}
use Rattle.rv_scope.specs.declared.known.Known.TheVariants as k
use Rattle.rv_scope.specs.declared.known.Known.{Known}
use Rattle.rv_types.specs.declared.point.Local.{Local}
use Rattle.rv_types.specs.Points.{local_at}
use Rattle.rv_types.specs.Rising.{RisesFrom, IsRising}

apart : (a b : ℕ) → a < b → a == b ≡ false
apart a b h = grind (arith, nat_tests)

apart_back : (a b : ℕ) → b < a → a == b ≡ false
apart_back a b h = grind (arith, nat_tests)

alike : (a b : ℕ) → a ≡ b → a == b ≡ true
alike a b e = grind (arith, nat_tests)

no_lower : (low high : ℕ) (ls : List Local) → low ≤ high → RisesFrom high ls → RisesFrom low ls
no_lower low high [] h r = tt
no_lower low high (one ∷ more) h r = (omega (arith, h, r.0), r.1)

-- those in front of others
front : (low : ℕ) (xs ys : List Local) → RisesFrom low (xs ++ ys) → RisesFrom low xs
front low [] ys r = tt
front low (x ∷ xs) ys r = (r.0, front (x.at + 1) xs ys r.1)

-- one, and those behind it
back : (low : ℕ) (xs : List Local) (y : Local) (ys : List Local) → RisesFrom low (xs ++ y ∷ ys) → (low ≤ y.at) × RisesFrom (y.at + 1) ys
back low [] y ys r = r
back low (x ∷ xs) y ys r =
    let b : (x.at + 1 ≤ y.at) × RisesFrom (y.at + 1) ys = back (x.at + 1) xs y ys r.1 in
    (omega (arith, r.0, b.0), b.1)

-- nothing stands before the first
none_before : (at low : ℕ) (ls : List Local) → at < low → RisesFrom low ls → local_at at ls ≡ None
none_before at low [] h r = refl
none_before at low (one ∷ more) h r =
    let here : at < one.at = omega (arith, h, r.0) in
    let later : at < one.at + 1 = omega (arith, h, r.0) in
    ap (λ (b : Bool). if b then Some one.known else local_at at more) (apart_back one.at at here)
    ∙ none_before at (one.at + 1) more later r.1

-- what stands before a place that is one's own or before that is in front of it
in_front : (at low : ℕ) (xs : List Local) (y : Local) (ys : List Local) → RisesFrom low (xs ++ y ∷ ys) → at < y.at → local_at at (xs ++ y ∷ ys) ≡ local_at at xs
in_front at low [] y ys r h = none_before at y.at (y ∷ ys) h (omega arith, r.1)
in_front at low (x ∷ xs) y ys r h =
    ap (λ (o : Option Known). if x.at == at then Some x.known else o) (in_front at (x.at + 1) xs y ys r.1 h)

from_one : (at low : ℕ) (xs : List Local) (y : Local) (ys : List Local) → RisesFrom low (xs ++ y ∷ ys) → y.at ≤ at → local_at at (xs ++ y ∷ ys) ≡ local_at at (y ∷ ys)
from_one at low [] y ys r h = refl
from_one at low (x ∷ xs) y ys r h =
    let b : (x.at + 1 ≤ y.at) × RisesFrom (y.at + 1) ys = back (x.at + 1) xs y ys r.1 in
    let here : x.at < at = omega (arith, b.0, h) in
    ap (λ (b : Bool). if b then Some x.known else local_at at (xs ++ y ∷ ys)) (apart x.at at here)
    ∙ from_one at (x.at + 1) xs y ys r.1 h

module _ (all front_part back_part : List Local) (parts : all ≡ front_part ++ back_part) where
  pub front_rises : IsRising all → IsRising front_part
  front_rises r = front 0 front_part back_part (subst IsRising parts r)

  module _ (one : Local) (more : List Local) (cut : back_part ≡ one ∷ more) where
    whole : all ≡ front_part ++ one ∷ more
    whole = parts ∙ ap (λ (ls : List Local). front_part ++ ls) cut

    pub back_rises : IsRising all → IsRising more
    back_rises r = no_lower 0 (one.at + 1) more (omega arith) (back 0 front_part one more (subst IsRising whole r)).1

    pub found_one : (at : ℕ) → IsRising all → one.at ≡ at → Some one.known ≡ local_at at all
    found_one at r e =
        let up : one.at ≤ at = omega (arith, e) in
        sym (ap (λ (ls : List Local). local_at at ls) whole ∙ from_one at 0 front_part one more (subst IsRising whole r) up
        ∙ ap (λ (b : Bool). if b then Some one.known else local_at at more) (alike one.at at e))

    pub found_in_front : (at : ℕ) → IsRising all → at < one.at → local_at at front_part ≡ local_at at all
    found_in_front at r h =
        sym (ap (λ (ls : List Local). local_at at ls) whole ∙ in_front at 0 front_part one more (subst IsRising whole r) h)

    pub found_behind : (at : ℕ) → IsRising all → one.at < at → local_at at more ≡ local_at at all
    found_behind at r h =
        let up : one.at ≤ at = omega (arith, h) in
        sym (ap (λ (ls : List Local). local_at at ls) whole ∙ from_one at 0 front_part one more (subst IsRising whole r) up
        ∙ ap (λ (b : Bool). if b then Some one.known else local_at at more) (apart one.at at h))

-- one more behind the last
pushed : (low : ℕ) (xs : List Local) (last new : Local) → RisesFrom low (xs ++ last ∷ []) → last.at < new.at → RisesFrom low ((xs ++ last ∷ []) ++ new ∷ [])
pushed low [] last new r h = (r.0, (omega (arith, h), tt))
pushed low (x ∷ xs) last new r h = (r.0, pushed (x.at + 1) xs last new r.1 h)

one_more : (all xs : List Local) (last new : Local) → all ≡ xs ++ last ∷ [] → last.at < new.at → IsRising all → IsRising (all ++ new ∷ [])
one_more all xs last new e h r = subst (λ (ls : List Local). IsRising (ls ++ new ∷ [])) (sym e) (pushed 0 xs last new (subst IsRising e r) h)

-- what stands for an element that isn't there
abbrev pub none_known : Local
none_known = record { at = 0; known = k.Subtype (record { of = Integer; low = pos 0; high = pos 0 }) }

not_none : 1 ≤ 0 → ⊥
not_none h = omega (arith, h)

-- a list is its first element and those behind it
pub cut : (d : Local) (xs : List Local) → 1 ≤ length xs → xs ≡ slice_index_or xs 0 d ∷ take (length xs - 1) (drop 1 xs)
cut d [] h = absurd (not_none h)
cut d (x ∷ more) h =
    let all : length more ≤ length (x ∷ more) - 1 = omega arith in
    ap (λ (ls : List Local). x ∷ ls) (sym (take_all (length (x ∷ more) - 1) more all))

-- and its last one with those before it
ends : (d : Local) (xs : List Local) → 1 ≤ length xs → xs ≡ take (length xs - 1) xs ++ slice_index_or xs (length xs - 1) d ∷ []
ends d xs h =
    let there : length xs - 1 < length xs = omega (arith, h) in
    let over : length xs ≤ suc (length xs - 1) = omega (arith, h) in
    sym (take-append-drop (length xs - 1) xs)
    ∙ ap (λ (ls : List Local). take (length xs - 1) xs ++ ls)
    (drop-cons xs (length xs - 1) d there ∙ ap (λ (ls : List Local). slice_index_or xs (length xs - 1) d ∷ ls) (drop_all (suc (length xs - 1)) xs over))

less : (a b : ℕ) → nat_lt a b ≡ true → a < b
less a b e = grind (arith, nat_tests)

pub one_more_behind : (d : Local) (xs : List Local) (at : ℕ) → 1 ≤ length xs → nat_lt (slice_index_or xs (length xs - 1) d).at at ≡ true →
    (known : Known) → IsRising xs → IsRising (xs ++ record { at = at; known = known } ∷ [])
one_more_behind d xs at h behind known r =
    one_more xs (take (length xs - 1) xs) (slice_index_or xs (length xs - 1) d) (record { at = at; known = known }) (ends d xs h)
    (less (slice_index_or xs (length xs - 1) d).at at behind) r
