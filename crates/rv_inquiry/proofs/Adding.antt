-- What holds of a `Result` that is Ok, and of its value.
use Rattle.std.specs.Prelude.{IfOk, IsOkAnd}
use Rattle.std.specs.declared.result.Result.{Result}
use Rattle.std.specs.declared.result.Result.TheVariants.{Ok, Err}

module _ {T E : Type 0} where
  pub both : (r : Result T E) (P Q : T → Type 0) (C : Type 0) → IsOkAnd r P → IfOk r Q → ((x : T) → P x → Q x → C) → C
  both (Ok x) P Q C p q f = f x p q
  both (Err e) P Q C p q f = absurd p
