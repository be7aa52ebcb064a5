use Rattle.thread_rows.proofs.Turns.{told_turn}
use Rattle.thread_rows.proofs.stage.changes.change_list.Goals as goal

pub returns : goal.returns
returns g c = told_turn _ _ _ _ c.change.ensures
