use Rattle.std.proofs.Common.{◌≡◌, List, Some, ap, sym, subst, refl}
use Rattle.std.proofs.lemmas.Result.{err_from_is_err_and}
use Rattle.rv_shape.specs.Shape.{Shape}
use Rattle.rv_shape.specs.Fits as fitting
use Rattle.rv_tree.specs.Units.{UnitTree}
use Rattle.rv_tree.specs.UnitView.{unit_view}
use Rattle.rv_code.specs.BodyView.{unit_view as code_view}
use Rattle.rv_outline.specs.Shapes.{shape_of}
use Rattle.rv_types.specs.BodiesOf.{bodies_of}
use Rattle.rv_unit.specs.Compiles.{IsBound, IsOfTree}
use Rattle.rv_unit.proofs.Binding.{bound_as}
use Rattle.rv_unit.proofs.compiling.unit_of.Goals as goal

pub returns-in_err-shape-clause-fault : goal.returns-in_err-shape-clause-fault
returns-in_err-shape-clause-fault c =
    let p = err_from_is_err_and c.from_residual.result c.from_residual.ensures.1 in
    let trees = ap unit_view c.in-Ok.ensures.tree in
    let units = c.in-Ok.ensures.catalogue in
    let bound = bound_as c.args.catalogue.now c.in-Ok.named.catalogue.now (unit_view c.args.tree.now) (unit_view c.in-Ok.named.tree.now) units trees
    (c.in_default.ensures.conforms.0 refl) c.in-Ok.ensures.bound c.in-Ok.ensures.bodies c.in-Ok.ensures.operations c.in-Ok.ensures.conforms c.in-Ok.ensures.ends c.in-Ok.ensures.jumps c.in-Ok.ensures.distinct c.in-Ok.ensures.one_body in
    let told = c.in_err-shape.ensures.fault bound in
    let of_tree = subst (λ (t : UnitTree). IsOfTree c.in-Ok.named.catalogue.now t c.in_err-shape.field-0.0) trees told in
    rw (p.1, p.2) (subst (λ (s : List Shape). IsOfTree s (unit_view c.args.tree.now) c.in_err-shape.field-0.0) units of_tree)

pub returns-in-Some-shape_fits-clause-fault : goal.returns-in-Some-shape_fits-clause-fault
returns-in-Some-shape_fits-clause-fault c =
    let trees = ap unit_view c.in-Ok.ensures.tree in
    let units = c.in-Ok.ensures.catalogue in
    let bound : IsBound c.args.catalogue.now (unit_view c.args.tree.now) = record {
      conforms = c.in_default.ensures.conforms.0 refl;
      bound = c.in-Ok.ensures.bound;
      completed = c.in-Ok.ensures.bodies;
      operations = c.in-Ok.ensures.operations;
      profiles = c.in-Ok.ensures.conforms;
      ends = c.in-Ok.ensures.ends;
      placed = c.in-Ok.ensures.jumps;
      distinct = c.in-Ok.ensures.distinct;
      one_body = c.in-Ok.ensures.one_body;
    } in
    let declared = subst (λ (s : List Shape). shape_of s (unit_view c.args.tree.now) ≡ Some c.in_ok-shape.shape) units
    (subst (λ (t : UnitTree). shape_of c.in-Ok.named.catalogue.now t ≡ Some c.in_ok-shape.shape) trees (subst (λ s. shape_of c.in-Ok.named.catalogue.now (unit_view c.in-Ok.named.tree.now) ≡ Some s) c.in_ok-shape.shape-is c.in_ok-shape.ensures.shape)) in
    let code = subst (λ (s : List Shape). bodies_of s (unit_view c.args.tree.now) ≡ Some (code_view c.in_ok-shape.bodies)) units
    (subst (λ (t : UnitTree). bodies_of c.in-Ok.named.catalogue.now t ≡ Some (code_view c.in_ok-shape.bodies)) trees (subst (λ b. bodies_of c.in-Ok.named.catalogue.now (unit_view c.in-Ok.named.tree.now) ≡ Some (code_view b)) c.in_ok-shape.bodies-is c.in_ok-shape.ensures.bodies)) in (
      c.in_ok-shape.shape,
      record { bound = bound; declared = declared },
      code_view c.in_ok-shape.bodies,
      code,
      sym (subst (λ s. Some c.in-Some-shape_fits.fault ≡ fitting.fault c.args.catalogue.now s) c.in_ok-shape.shape-is c.in-Some-shape_fits.ensures),
    )
