use Rattle.std.proofs.Common.{length}
use Rattle.rv_never.proofs.telling.+put_notes.Given as goal

abbrev pub decreases-put_notes : goal.decreases-put_notes
decreases-put_notes l = length l.notes.now
