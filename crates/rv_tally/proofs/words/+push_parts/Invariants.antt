use Rattle.std.proofs.Common.{length}
use Rattle.rv_tally.proofs.words.+push_parts.Given as goal

abbrev pub decreases-push_parts : goal.decreases-push_parts
decreases-push_parts l = length l.shapes.now
