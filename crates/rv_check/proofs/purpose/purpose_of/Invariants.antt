use Rattle.std.proofs.Common.{◌≡◌, length}
use Rattle.rv_check.specs.Purposes.{purpose_of}
use Rattle.rv_check.proofs.purpose.purpose_of.Given as goal

-- no section so far is one that one command alone takes
abbrev pub invariant-each : goal.invariant-each
invariant-each l = purpose_of l.fn.parts ≡ purpose_of l.parts

abbrev pub decreases-each : goal.decreases-each
decreases-each l = length l.parts
