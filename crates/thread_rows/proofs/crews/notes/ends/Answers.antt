use Rattle.std.proofs.Common.{rules}
use Rattle.thread_rows.proofs.Notes.{first_sent, known_for, parted}
use Rattle.thread_rows.proofs.crews.notes.ends.Goals as goal

pub try_send_as-requires-clause-rule : goal.try_send_as-requires-clause-rule
try_send_as-requires-clause-rule g c = (first_sent _ _ _ c.args.note (search rules), λ items views holds at. tt)

pub another-other-requires-clause-rule : goal.another-other-requires-clause-rule
another-other-requires-clause-rule g c = parted _ _ c.args.note.turn (known_for c.args.note _ (search rules))
