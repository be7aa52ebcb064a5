use Rattle.std.proofs.Common.{◌≡◌, drop, []}
use Rattle.rv_outline.specs.Shapes.{objects_onto}
use Rattle.rv_outline.proofs.shape.each_object.Given as goal

abbrev pub invariant-loop-object : goal.invariant-loop-object
invariant-loop-object l = objects_onto l.units (drop l.object-index l.list) l.done.items ≡ objects_onto l.units l.list []
