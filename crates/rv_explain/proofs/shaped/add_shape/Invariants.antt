use Rattle.std.proofs.Common.{length}
use denote.Text.{Utf8}
use denote.Shadow.{shadow}
use Rattle.rv_explain.proofs.shaped.add_shape.Given as goal

abbrev pub invariant-each : goal.invariant-each
invariant-each l = shadow (Utf8 l.rest) × shadow (Utf8 l.unit) × shadow (Utf8 l.object)

abbrev pub decreases-each : goal.decreases-each
decreases-each l = length l.rest
