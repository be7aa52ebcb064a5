use Rattle.std.proofs.Common.{length}
use Rattle.rv_play.proofs.play.units_in.Given as goal

-- each part is taken from those that are left
abbrev pub decreases-each : goal.decreases-each
decreases-each l = length l.parts
