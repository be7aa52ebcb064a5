use Rattle.rv_access.proofs.Spelling.{with_line}
use Rattle.rv_access.proofs.list.AccessList.push.Goals as goal

pub invariant_of-self-2 : goal.invariant_of-self-2
invariant_of-self-2 c =
    with_line c.self.inside.lines.items c.push.new.self.items c.args.line c.self.invariant c.spelled.ensures c.in_ok-push.ensures.items
