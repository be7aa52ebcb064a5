-- A violation behind another changes nothing.
use Rattle.std.proofs.Common.{◌≡◌, refl}
use Rattle.std.specs.Prelude.{ℕ, Bool, true, false, if◌then◌else◌, Option, Some, None}
use Rattle.rv_restrict.specs.declared.violation.Restriction.{Restriction}
use Rattle.rv_restrict.specs.declared.violation.Violation.{Violation}
use Rattle.rv_restrict.specs.Found.{precedes, earlier, broken_unless, is_behind}

pub unchanged : (keeps : Bool) (restriction : Restriction) (place : ℕ) (found : Option Violation) →
    is_behind (record { restriction = restriction; place = place }) found ≡ true → found ≡ broken_unless earlier keeps restriction place found
unchanged true restriction place found h = refl
unchanged false restriction place None h = cc
unchanged false restriction place (Some w) h = by-test (precedes w (record { restriction = restriction; place = place })) h where
  by-test : (b : Bool) → b ≡ true → Some w ≡ (if b then Some w else Some (record { restriction = restriction; place = place }))
  by-test true e = refl
  by-test false e = cc
