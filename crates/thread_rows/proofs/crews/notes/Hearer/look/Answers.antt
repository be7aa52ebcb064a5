use Rattle.thread_rows.proofs.Notes.{came}
use Rattle.thread_rows.proofs.crews.notes.Hearer.look.Goals as goal

pub try_recv_as-requires-clause-rule : goal.try_recv_as-requires-clause-rule
try_recv_as-requires-clause-rule g c = (came _ _, λ items views holds at. tt)
