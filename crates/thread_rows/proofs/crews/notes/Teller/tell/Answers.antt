use Rattle.thread_rows.proofs.Notes.{sent}
use Rattle.thread_rows.proofs.crews.notes.Teller.tell.Goals as goal

pub try_send_as-requires-clause-rule : goal.try_send_as-requires-clause-rule
try_send_as-requires-clause-rule g c = (sent _ _ _ c.args.note c.requires, λ items views holds at. tt)
