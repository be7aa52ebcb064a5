use Rattle.rv_table.proofs.Bits.{down}
use Rattle.rv_table.proofs.edit_row.moved_down.Goals as goal

pub returns-clause-others : goal.returns-clause-others
returns-clause-others c = λ bit less. down c.args.word c.args.next bit less
