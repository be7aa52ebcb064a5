use Rattle.std.proofs.Common.{◌-◌}
use Rattle.rv_access.proofs.Putting.{put_is}
use Rattle.rv_access.proofs.Spelling.{put_line}
use Rattle.rv_access.proofs.list.AccessList.put.Goals as goal

pub returns : goal.returns
returns c = rw (← c.self.view_is) (put_is c.self.inside.lines.items c.args.number c.args.line c.requires.counted (rw c.self.view_is c.requires.there))

pub invariant_of-self : goal.invariant_of-self
invariant_of-self c = put_line c.self.inside.lines.items (c.args.number - 1) c.args.line c.self.invariant c.spelled.ensures
