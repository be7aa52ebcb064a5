use Rattle.std.proofs.Common.{◌<◌, ◌/◌, arith, length}
use Rattle.rv_table.proofs.Bits.{unmark_here, unmark_other}
use Rattle.rv_table.proofs.edit_row.unmark.Goals as goal

pub returns-clause-here : goal.returns-clause-here
returns-clause-here c =
    let some : c.args.place / 64 < length c.args.words.now = omega (arith, c.requires, c.told-words) in
    unmark_here c.args.words.now c.args.place some

pub returns-clause-others : goal.returns-clause-others
returns-clause-others c = λ j h.
    let some : c.args.place / 64 < length c.args.words.now = omega (arith, c.requires, c.told-words) in
    unmark_other c.args.words.now c.args.place j some h
