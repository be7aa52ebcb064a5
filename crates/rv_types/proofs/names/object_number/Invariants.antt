use Rattle.std.proofs.Common.{◌≡◌, ◌<◌, drop}
use Rattle.rv_types.specs.Points.{object_from}
use Rattle.rv_types.proofs.names.object_number.Given as goal

abbrev pub invariant-loop-shape : goal.invariant-loop-shape
invariant-loop-shape l = record {
  few : l.first < 4294967296;
  found : object_from l.first l.left l.object (drop l.shape-index l.shape-items) ≡ object_from 1 l.unit l.object l.shape-items;
}
