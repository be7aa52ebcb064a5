use Rattle.std.proofs.Common.{sym, arith, [], true, None}
use Rattle.rv_access.specs.Words.{Words}
use Rattle.rv_table.proofs.Firsts.{first_is, none_is}
use Rattle.rv_table.proofs.row.deciding.Goals as goal

blank : Words
blank = record { allow = true; unit = []; object = []; operation = []; window = None }

pub returns-in-Some : goal.returns-in-Some
returns-in-Some c = λ ls unit object operation tick long small ours theirs.
    let first = first_is ls blank unit object operation tick c.args.ours.now c.args.theirs.now c.in-Some.place ours theirs c.in-Some.ensures.some.1 c.in-Some.ensures.some.2 c.in-Some.ensures.first in
    omega (arith, first, long, c.saturating_sub.ensures)

pub returns-in-None : goal.returns-in-None
returns-in-None c = λ ls unit object operation tick long small ours theirs.
    sym (none_is ls blank unit object operation tick c.args.ours.now c.args.theirs.now small ours theirs c.in-None.ensures.none)
