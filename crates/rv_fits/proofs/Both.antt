-- Two tests that both hold.
use Rattle.std.proofs.Common.{◌≡◌, Bool, true, false, refl}
use Rattle.std.specs.Prelude.{◌&&◌}

pub first_of_both : (b c : Bool) → (b && c) ≡ true → b ≡ true
first_of_both true c e = refl
first_of_both false c e = e

pub second_of_both : (b c : Bool) → (b && c) ≡ true → c ≡ true
second_of_both true c e = e
second_of_both false c e = absurd (cc e)

pub both_hold : (b c : Bool) → b ≡ true → c ≡ true → (b && c) ≡ true
both_hold true c e f = f
both_hold false c e f = absurd (cc e)
