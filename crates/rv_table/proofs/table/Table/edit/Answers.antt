use Rattle.std.proofs.Common.{◌≡◌, ◌≤◌, ◌∙◌, ℕ, List, length, ap, subst, sym, arith}
use Rattle.std.specs.List.{AllZip}
use Rattle.std.specs.Vec.{with_items}
use Rattle.std.proofs.lemmas.List.{with_items_is}
use Rattle.rv_shape.specs.Catalogue.{all_objects}
use Rattle.rv_shape.specs.Shape.{Shape}
use Rattle.rv_table.specs.Edits.{CanEdit, edited, lines_after}
use Rattle.rv_table.specs.Rows.{is_allowing}
use Rattle.rv_table.specs.Tables.{AreSites, IsCaller, IsTable, callers}
use Rattle.rv_table.proofs.Edited.{edited_few, edited_long}
use Rattle.rv_table.proofs.table.Table.edit.Goals as goal

pub returns : goal.returns
returns c = λ list is.
    let edit = c.args.edit in
    let shapes = c.args.catalogue.now in
    let t = c.self.inside in
    let inside : IsTable list shapes (record { callers = t.callers.items; objects = t.objects.items; nameless = t.nameless; allowing = t.allowing; spans = t.spans; lines = t.lines }) = subst (IsTable list shapes) (sym c.self.view_is) is in
    let long : t.lines ≡ length list = inside.count in
    let can : CanEdit edit (length list) = subst (CanEdit edit) (ap (λ m. m.lines) (sym c.self.view_is) ∙ long) c.requires in
    let lent : AllZip (IsCaller list) (callers c.shapes.result.now) c.deref_mut.result.now =
    subst (λ (ss : List Shape). AllZip (IsCaller list) (callers ss) c.deref_mut.result.now) (sym c.shapes.ensures.value) (subst (λ (rs : List (List ℕ)). AllZip (IsCaller list) (callers shapes) rs) (sym c.deref_mut.ensures.value) inside.callers) in
    let objects : AllZip (AreSites list) (all_objects shapes) c.deref_mut-2.result.now = subst (λ (rs : List (List (List ℕ))). AllZip (AreSites list) (all_objects shapes) rs) (sym c.deref_mut-2.ensures.value) inside.objects in
    let count : c.lines_after-self-inside.result ≡ length (edited edit list) = c.lines_after-self-inside.ensures ∙ ap (lines_after edit) long ∙ sym (edited_long edit list can) in
    let callers_kept : length c.edit_callers.new.rows ≡ t.callers.len = omega (arith, c.edit_callers.auto.rows, c.deref_mut.ensures.len) in
    let callers_back : (with_items t.callers c.edit_callers.new.rows).items ≡ c.edit_callers.new.rows = with_items_is t.callers c.edit_callers.new.rows callers_kept in
    let objects_kept : length c.edit_objects.new.rows ≡ t.objects.len = omega (arith, c.edit_objects.auto.rows, c.deref_mut-2.ensures.len) in
    let objects_back : (with_items t.objects c.edit_objects.new.rows).items ≡ c.edit_objects.new.rows = with_items_is t.objects c.edit_objects.new.rows objects_kept in
    let callers_new : AllZip (IsCaller (edited edit list)) (callers shapes) c.edit_callers.new.rows =
    subst (λ (ss : List Shape). AllZip (IsCaller (edited edit list)) (callers ss) c.edit_callers.new.rows) c.shapes.ensures.value (c.edit_callers.ensures list long lent) in
    let objects_new : AllZip (AreSites (edited edit list)) (all_objects shapes) c.edit_objects.new.rows = c.edit_objects.ensures list long objects in
    record {
      few = subst (λ n. n ≤ 512) (sym (edited_long edit list can)) (edited_few edit (length list) can);
      count = count;
      callers = subst (λ (rs : List (List ℕ)). AllZip (IsCaller (edited edit list)) (callers shapes) rs) (sym callers_back) callers_new;
      objects = subst (λ (rs : List (List (List ℕ))). AllZip (AreSites (edited edit list)) (all_objects shapes) rs) (sym objects_back) objects_new;
      nameless = c.edit_row.ensures list _ long c.is_of_caller.ensures inside.nameless;
      allowing = c.edit_row-2.ensures list is_allowing long c.allows.ensures inside.allowing;
      spans = c.edit.ensures list long inside.spans;
    }
