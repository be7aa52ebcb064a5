use Rattle.std.proofs.Common.{refl}
use Rattle.rv_restrict.proofs.unit.local.Goals as goal

pub returns-in-Protected : goal.returns-in-Protected
returns-in-Protected c = rw (c.in-Protected.is, c.judge-in-Protected.ensures, c.note_unless.ensures) refl

pub returns-in-Task : goal.returns-in-Task
returns-in-Task c = rw (c.in-Task.is, c.judge-in-Task.ensures, c.note.ensures) refl
