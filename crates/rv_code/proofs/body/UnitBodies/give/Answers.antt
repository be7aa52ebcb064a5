use Rattle.rv_code.proofs.Listed.{within_given}
use Rattle.std.proofs.Common.{length}
use Rattle.rv_code.proofs.body.UnitBodies.give.Goals as goal

pub invariant_of-self : goal.invariant_of-self
invariant_of-self c = record {
  listed = within_given (length c.args.self.now.lists.items) c.args.self.now.objects.items c.args.object c.args.list c.requires.list c.args.self.now.listed;
}
