-- Whether it is told that a line names no unit.
use Rattle.std.proofs.Common.{◌≡◌, Bool, true, false, refl}
use Rattle.std.specs.Prelude.{◌||◌}

pub in_any_case : (denies is_closed near : Bool) → (denies || is_closed) ≡ true → (denies || (is_closed || near)) ≡ true
in_any_case true is_closed near e = refl
in_any_case false true near e = refl
in_any_case false false near e = absurd (cc)

pub where_near : (denies is_closed near : Bool) → (denies || is_closed) ≡ false → (denies || (is_closed || near)) ≡ near
where_near true is_closed near e = absurd (cc)
where_near false true near e = absurd (cc)
where_near false false near e = refl
