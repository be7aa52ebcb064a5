use Rattle.std.proofs.Common.{◌≡◌, ◌∷◌, ℕ, List, length, subst, sym, arith}
use Rattle.std.specs.List.{AllZip}
use Rattle.std.specs.Vec.{with_items}
use Rattle.std.proofs.lemmas.List.{with_items_is}
use Rattle.rv_table.specs.Edits.{edited}
use Rattle.rv_table.specs.Spans.{IsOpenRow, IsSpans}
use Rattle.rv_table.proofs.EditedSpans.{ends_stay}
use Rattle.rv_table.proofs.spans.Spans.edit.Goals as goal

pub returns : goal.returns
returns c = λ list long is.
    let ends = c.self.inside.ends.items in
    let rows = c.self.inside.rows.items in
    let inside : IsSpans list (record { ends = ends; rows = rows }) = subst (IsSpans list) (sym c.self.view_is) is in
    let lent : AllZip (IsOpenRow list) (0 ∷ ends) c.deref_mut.result.now = subst (λ (rs : List (List ℕ)). AllZip (IsOpenRow list) (0 ∷ ends) rs) (sym c.deref_mut.ensures.value) inside.rows in
    let kept : length c.edit_open_rows.new.rows ≡ c.self.inside.rows.len = omega (arith, c.edit_open_rows.auto.rows, c.deref_mut.ensures.len) in
    let back : (with_items c.self.inside.rows c.edit_open_rows.new.rows).items ≡ c.edit_open_rows.new.rows = with_items_is c.self.inside.rows c.edit_open_rows.new.rows kept in
    record {
      ends = ends_stay c.args.edit c.args.lines ends list c.requires inside.ends;
      rows = subst (λ (rs : List (List ℕ)). AllZip (IsOpenRow (edited c.args.edit list)) (0 ∷ ends) rs) (sym back) (c.edit_open_rows.ensures list (0 ∷ ends) long lent);
    }
