use Rattle.std.proofs.Common.{◌+◌, ◌++◌, ◌∷◌, [], List, ℕ, map, sym, subst, take}
use Rattle.std.specs.List.{AllZip}
use Rattle.rv_shape.specs.Catalogue.{UnitObject}
use Rattle.rv_shape.specs.declared.object.Object.{Object}
use Rattle.rv_table.specs.Tables.{AreSites}
use Rattle.rv_table.proofs.Zips.{zip_more}
use Rattle.rv_table.proofs.rows.add_unit.Goals as goal

pub loop-object-preserved : goal.loop-object-preserved
loop-object-preserved c = λ before all.
    let list = c.args.list.now in
    let unit = c.args.shape.now.name in
    let place : Object → UnitObject = λ object. record { unit = unit; object = object } in
    let object = c.object-item.result in
    let rows = c.in_ok-rows_of_object.field-0 in
    let made : AreSites list (place object) rows = subst (λ (name : List ℕ). AreSites list (record { unit = name; object = object }) rows) c.name.ensures c.in_ok-rows_of_object.ensures in
    let objects = c.objects-object-items.result.now in
    let index = c.loop-object.object-index in
    let so_far : AllZip (AreSites list) (before ++ map place (take index objects)) c.loop-object.rows.items =
    subst (λ (os : List Object). AllZip (AreSites list) (before ++ map place (take index os)) c.loop-object.rows.items) (sym c.objects-object-items.ensures) (c.loop-object.invariant before all) in
    let more : AllZip (AreSites list) (before ++ map place (take (index + 1) objects)) (c.loop-object.rows.items ++ rows ∷ []) =
    zip_more (AreSites list) place before objects c.loop-object.rows.items index object rows c.loop-object-test.true c.object-item.is so_far made in
    subst (λ (os : List Object). AllZip (AreSites list) (before ++ map place (take (index + 1) os)) c.push.new.self.items) c.objects-object-items.ensures
    (subst (λ (items : List (List (List ℕ))). AllZip (AreSites list) (before ++ map place (take (index + 1) objects)) items) (sym c.in_ok-push.ensures.items) more)
