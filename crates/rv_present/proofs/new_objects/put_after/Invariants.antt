use Rattle.std.proofs.Common.{◌-◌}
use Rattle.rv_present.specs.Loads.{AreRenewed}
use Rattle.rv_present.proofs.new_objects.put_after.Given as goal

abbrev pub invariant-loop-object : goal.invariant-loop-object
invariant-loop-object l = AreRenewed l.catalogue l.before (l.object - 1) l.initial.objects l.objects
