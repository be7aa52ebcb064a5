use Rattle.rv_table.proofs.Bits.{joined_before, joined_behind}
use Rattle.rv_table.proofs.edit_row.joined.Goals as goal

pub returns-clause-before : goal.returns-clause-before
returns-clause-before c = λ bit less. joined_before c.args.before c.args.behind c.args.place bit c.requires less

pub returns-clause-behind : goal.returns-clause-behind
returns-clause-behind c = λ bit past less. joined_behind c.args.before c.args.behind c.args.place bit c.requires past less
