use Rattle.std.proofs.Common.{◌≡◌, ◌<◌, ◌+◌, ◌∙◌, length, true, false, ap, sym, arith}
use Rattle.std.specs.Prelude.{is_some}
use Rattle.rv_shape.specs.Catalogue.{all_objects}
use Rattle.rv_shape.specs.Names.{operation_number}
use Rattle.rv_notes.proofs.Objects.{found, not_found}
use Rattle.rv_notes.proofs.names.has_somewhere.Goals as goal

pub returns-then-is_some : goal.returns-then-is_some
returns-then-is_some c =
    let less : c.loop-place.place < length (all_objects c.args.catalogue.now) = omega (arith, c.loop-place-test.true, c.objects-place-end.ensures.count) in
    let there : is_some (operation_number c.args.catalogue.now (c.loop-place.place + 1) c.args.name.now) ≡ true =
    sym (ap is_some c.find_operation.ensures) ∙ (sym c.is_some.ensures ∙ c.if-is_some.true) in
    sym (found c.args.catalogue.now c.loop-place.place c.args.name.now less there)

pub loop-place-preserved : goal.loop-place-preserved
loop-place-preserved c =
    let less : c.loop-place.place < length (all_objects c.args.catalogue.now) = omega (arith, c.loop-place-test.true, c.objects-place-end.ensures.count) in
    let none : is_some (operation_number c.args.catalogue.now (c.loop-place.place + 1) c.args.name.now) ≡ false =
    sym (ap is_some c.find_operation.ensures) ∙ (sym c.is_some.ensures ∙ c.if-is_some.false) in
    not_found c.args.catalogue.now c.loop-place.place c.args.name.now less none c.loop-place.invariant
