use Rattle.std.proofs.Common.{◌∷◌, ◌+◌, sym, subst, List, ℕ, take, get_or}
use Rattle.std.specs.List.{AllZip}
use Rattle.std.proofs.lemmas.List.{get_or_default}
use Rattle.rv_table.specs.Spans.{IsOpenRow}
use Rattle.rv_table.proofs.Ends.{zip_take}
use Rattle.rv_table.proofs.spans.rows_of.Goals as goal

pub loop-end-preserved : goal.loop-end-preserved
loop-end-preserved c =
    let list = c.args.list.now in
    let ends = c.args.ends.now in
    let end = get_or ends c.loop-end.end-index 0 in
    subst (λ (rows : List (List ℕ)). AllZip (IsOpenRow list) (0 ∷ take (c.loop-end.end-index + 1) ends) rows) (sym c.in_ok-push-2.ensures.items)
    (zip_take (IsOpenRow list) 0 ends c.loop-end.rows.items c.loop-end.end-index end c.open_row-in-loop-end.result c.loop-end-test.true
    (get_or_default ends c.loop-end.end-index 0 end c.loop-end-test.true) c.loop-end.invariant c.open_row-in-loop-end.ensures)
