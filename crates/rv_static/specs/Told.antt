-- Whether a fault was told (own).
use Rattle.std.specs.Prelude.{Bool, true, Option, Some, None}

-- a fault is told where there is no result
abbrev pub told_unless : {A : Type 0} → Option A → Bool → Bool
told_unless None told = true
told_unless (Some a) told = told
