-- What is asked of each callee of a body (own).
use Rattle.std.specs.Prelude.{Bool}
use Rattle.rv_code.specs.declared.expression.Callee.{Callee}
use Rattle.rv_fits.specs.declared.passing.Test.{Test}
use Rattle.rv_fits.specs.Calls.{such_in}
use Rattle.rv_fits.specs.Fits.{callee_fits}

-- it fits the units, in the body of the object
abbrev pub passes : Test → Callee → Bool
passes test c = such_in (callee_fits test.units.now) test.object c
