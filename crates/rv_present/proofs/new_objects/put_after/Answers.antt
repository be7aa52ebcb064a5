use Rattle.std.proofs.Common.{◌-◌, ◌+◌, List, length, arith, subst, sym}
use Rattle.rv_object.specs.Actions.{ObjectView}
use Rattle.rv_shape.specs.Catalogue.{all_objects}
use Rattle.rv_present.specs.Loads.{AreRenewed}
use Rattle.rv_present.proofs.Renewing.{renewed_more, renewed_none, renewed_upto}
use Rattle.rv_present.proofs.new_objects.put_after.Goals as goal

pub loop-object-init : goal.loop-object-init
loop-object-init c = renewed_none _ c.args.before _ _ (omega arith)

pub loop-object-preserved : goal.loop-object-preserved
loop-object-preserved c =
    let shapes = c.args.catalogue.now in
    let i = c.loop-object.object in
    subst (λ (os : List ObjectView). AreRenewed shapes c.args.before (i + 1 - 1) c.args.objects.now os) (sym c.put.ensures)
    (renewed_more shapes c.args.before (i - 1) i (i + 1 - 1) c.args.objects.now c.loop-object.objects c.initial_of.result (omega (arith, c.loop-object.auto.object)) (omega arith)
    (omega (arith, c.loop-object.auto.object)) (omega (arith, c.loop-object-test.true, c.objects-last.ensures.count, c.requires.room)) c.initial_of.ensures c.loop-object.invariant)

pub returns : goal.returns
returns c =
    let shapes = c.args.catalogue.now in
    renewed_upto shapes c.args.before (c.loop-object.object - 1) (length (all_objects shapes)) c.args.objects.now c.loop-object.objects
    (omega (arith, c.loop-object.auto.object-end, c.loop-object-test.false, c.objects-last.ensures.count, c.requires.known)) c.loop-object.invariant
