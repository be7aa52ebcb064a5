use Rattle.std.proofs.Common.{◌≡◌, drop}
use Rattle.rv_shape.specs.Fits.{object_name}
use Rattle.rv_scope.specs.Visible.{index_from}
use Rattle.rv_scope.proofs.find.object_index.Given as goal

abbrev pub invariant-loop-index : goal.invariant-loop-index
invariant-loop-index l = index_from object_name l.name l.index (drop l.index l.objects) ≡ index_from object_name l.name 0 l.objects
