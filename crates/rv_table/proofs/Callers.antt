-- The name of a caller that is a unit.
use Rattle.std.proofs.Common.{◌≡◌, ◌≢◌, ℕ, zero, suc, ◌+◌, ◌-◌, List, None, false, arith, ap, sym, ◌∙◌, refl}
use Rattle.std.specs.Prelude.{slice_get, nat_lt, if◌then◌else◌}
use Rattle.std.specs.Option.{option_map}
use Rattle.std.proofs.lemmas.Option.{slice_get-map}
use Rattle.std.proofs.lemmas.Bool.Decides.{nat_tests}
use Rattle.rv_shape.specs.Catalogue.{numbered}
use Rattle.rv_shape.specs.Shape.{Shape}
use Rattle.rv_table.specs.Tables.{callers}

pub caller_at : (shapes : List Shape) (n : ℕ) → n ≢ 0 → slice_get (callers shapes) n ≡ option_map (λ (s : Shape). s.name) (slice_get shapes (n - 1))
caller_at shapes zero some = absurd (some refl)
caller_at shapes (suc n) some =
    let before : suc n - 1 ≡ n = omega arith in
    slice_get-map (λ (s : Shape). s.name) shapes n ∙ ap (λ k. option_map (λ (s : Shape). s.name) (slice_get shapes k)) (sym before)

-- what has a number is at the place before it
pub numbered_next : {X : Type 0} (xs : List X) (n : ℕ) → numbered xs (n + 1) ≡ slice_get xs n
numbered_next xs n =
    let some : nat_lt (n + 1) 1 ≡ false = grind (arith, nat_tests) in
    let before : n + 1 - 1 ≡ n = omega arith in
    λ i. if some i then None else slice_get xs (before i)

pub ruleset mapped = (slice_get-map)
