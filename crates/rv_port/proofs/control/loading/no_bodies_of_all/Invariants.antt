use Rattle.std.proofs.Common.{◌≡◌, map, take}
use Rattle.rv_code.specs.BodyView.{unit_view}
use Rattle.rv_exec.specs.Bodies.{units_of}
use Rattle.rv_port.specs.Controls.{no_bodies_of}
use Rattle.rv_port.proofs.control.loading.no_bodies_of_all.Given as goal

abbrev pub invariant-loop-shape : goal.invariant-loop-shape
invariant-loop-shape l = map unit_view (units_of l.bodies) ≡ map no_bodies_of (take l.shape-index l.shapes)
