-- What callees are in the body of an object (ISO/IEC 8652:2012, 9.5.3).
use Rattle.std.specs.Prelude.{ℕ}
use Rattle.rv_code.specs.declared.expression.Callee.{Callee}
use Rattle.rv_code.specs.declared.expression.Callee.TheVariants as callee

-- an entry of the same object is one of the object of this number; each other callee is as it is
abbrev pub of_object : ℕ → Callee → Callee
of_object object (callee.OwnEntry operation) = callee.Entry object operation
of_object object other = other
