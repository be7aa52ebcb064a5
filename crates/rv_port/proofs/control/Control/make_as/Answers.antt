use Rattle.std.proofs.Common.{◌≡◌, ◌∙◌, map, rules}
use Rattle.std.specs.Arc.{arc_value}
use Rattle.rv_code.specs.BodyView.{unit_view}
use Rattle.rv_exec.specs.Bodies.{units_of}
use Rattle.rv_port.specs.Controls.{no_bodies_of}
use Rattle.rv_behind.proofs.Doing.{fits_log}
use Rattle.rv_port.proofs.Operators.{begins_alone}
use Rattle.rv_port.proofs.Controls.{opened_by, opens_on, begins, none_brought}
use Rattle.rv_port.proofs.control.Control.make_as.Goals as goal

pub invariant_of-result : goal.invariant_of-result
invariant_of-result c = let same : c.in-Ok-copy.catalogue ≡ c.args.host.shapes = search rules in
    let none : map unit_view (units_of (arc_value c.in-Ok-no_bodies_of_all.bodies).bodies) ≡ map no_bodies_of c.args.host.shapes = search rules in
    let listed : c.in-Ok-copy-2.lists ≡ c.args.host.lists = search rules in
    opened_by _ _ _ _ _ c.args.host (units_of (arc_value c.in-Ok-no_bodies_of_all.bodies).bodies) c.replays.ensures.legal
    (fits_log c.args.host (arc_value c.in-Ok-no_bodies_of_all.bodies).bodies c.replays.ensures.legal (none_brought c.args.host (arc_value c.in-Ok-no_bodies_of_all.bodies).bodies none))
    (opens_on _ _ _ c.args.host _ (arc_value c.in-Ok-no_bodies_of_all.bodies).bodies c.in-Ok-boxed.ensures.ok.0 c.in-Ok-boxed.ensures.ok.1 (c.new-in-Ok-make.ensures ∙ c.in-Ok-make.ensures.ok)) c.new-in-Ok-make-2.ensures.items same listed

pub returns-in-Ok-make-clause-ok : goal.returns-in-Ok-make-clause-ok
returns-in-Ok-make-clause-ok c = let none : map unit_view (units_of (arc_value c.in-Ok-no_bodies_of_all.bodies).bodies) ≡ map no_bodies_of c.args.host.shapes = search rules in
    begins _ _ c.args.host (units_of (arc_value c.in-Ok-no_bodies_of_all.bodies).bodies) none (opens_on _ _ _ c.args.host _ (arc_value c.in-Ok-no_bodies_of_all.bodies).bodies c.in-Ok-boxed.ensures.ok.0 c.in-Ok-boxed.ensures.ok.1 (c.new-in-Ok-make.ensures ∙ c.in-Ok-make.ensures.ok))

pub boxed-requires : goal.boxed-requires
boxed-requires c = let none : map unit_view (units_of (arc_value c.in-Ok-no_bodies_of_all.bodies).bodies) ≡ map no_bodies_of c.args.host.shapes = search rules in
    none_brought c.args.host (arc_value c.in-Ok-no_bodies_of_all.bodies).bodies none

pub returns-in-Ok-make-clause-alone : goal.returns-in-Ok-make-clause-alone
returns-in-Ok-make-clause-alone c = begins_alone _ _ c.args.host (units_of (arc_value c.in-Ok-no_bodies_of_all.bodies).bodies) c.requires.alone (opens_on _ _ _ c.args.host _ (arc_value c.in-Ok-no_bodies_of_all.bodies).bodies c.in-Ok-boxed.ensures.ok.0 c.in-Ok-boxed.ensures.ok.1 (c.new-in-Ok-make.ensures ∙ c.in-Ok-make.ensures.ok))
