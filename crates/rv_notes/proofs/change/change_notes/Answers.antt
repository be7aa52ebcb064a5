use Rattle.std.proofs.Common.{◌∙◌, sym}
use Rattle.rv_notes.proofs.change.change_notes.Goals as goal

pub returns-in-Some : goal.returns-in-Some
returns-in-Some c = c.notes_made.ensures (sym c.in-Some.is ∙ c.in_ok-after.ensures)
