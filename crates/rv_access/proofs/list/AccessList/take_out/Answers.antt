use Rattle.std.proofs.Common.{◌-◌, sym, subst}
use Rattle.std.specs.List.{All}
use Rattle.rv_access.specs.Spelled.{IsSpelled}
use Rattle.rv_access.proofs.Spelling.{without_line}
use Rattle.rv_access.proofs.list.AccessList.take_out.Goals as goal

pub invariant_of-self : goal.invariant_of-self
invariant_of-self c = subst (All IsSpelled) (sym c.remove.ensures.items) (without_line c.self.inside.lines.items (c.args.number - 1) c.self.invariant)
