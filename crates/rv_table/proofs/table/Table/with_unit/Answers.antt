use Rattle.std.proofs.Common.{ℕ, List, subst, sym}
use Rattle.std.specs.List.{AllZip}
use Rattle.rv_shape.specs.Catalogue.{all_objects}
use Rattle.rv_table.proofs.Grown.{table_more}
use Rattle.rv_table.specs.Spans.{IsSpans}
use Rattle.rv_table.specs.Tables.{AreSites, IsCaller, IsTable, Marks, callers}
use Rattle.rv_table.proofs.table.Table.with_unit.Goals as goal

pub returns : goal.returns
returns c = λ shapes is.
    let list = c.args.list.now in
    let i = c.self.inside in
    let marks : Marks = record { callers = i.callers.items; objects = i.objects.items; nameless = i.nameless; allowing = i.allowing; spans = i.spans; lines = i.lines } in
    let inside : IsTable list shapes marks = subst (IsTable list shapes) (sym c.self.view_is) is in
    let mine = c.in_ok-callers_with.ensures (callers shapes) (subst (λ (rows : List (List ℕ)). AllZip (IsCaller list) (callers shapes) rows) (sym c.deref.ensures.value) inside.callers) in
    let theirs = c.in_ok-objects_with.ensures (all_objects shapes) (subst (λ (rows : List (List (List ℕ))). AllZip (AreSites list) (all_objects shapes) rows) (sym c.deref-2.ensures.value) inside.objects) in
    let open_rows : IsSpans list c.in_ok-copy.field-0 = subst (IsSpans list) (sym c.in_ok-copy.ensures) inside.spans in
    table_more list shapes c.args.shape.now marks c.in_ok-callers_with.field-0.items c.in_ok-objects_with.field-0.items c.in_ok-copy.field-0 inside mine theirs open_rows
