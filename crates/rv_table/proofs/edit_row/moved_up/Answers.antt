use Rattle.rv_table.proofs.Bits.{up}
use Rattle.rv_table.proofs.edit_row.moved_up.Goals as goal

pub returns-clause-others : goal.returns-clause-others
returns-clause-others c = λ bit less. up c.args.word c.args.first bit c.requires less
