use Rattle.std.proofs.Common.{◌∷◌, [], sym, subst, List, ℕ, take, ◌+◌}
use Rattle.std.specs.Prelude.{codes}
use Rattle.std.specs.List.{AllZip}
use Rattle.rv_shape.specs.Shape.{Shape}
use Rattle.rv_table.specs.Rows.{IsRow, of_caller}
use Rattle.rv_table.specs.Tables.{IsCaller, callers}
use Rattle.rv_table.proofs.Zips.{zip_more}
use Rattle.rv_table.proofs.rows.caller_rows.Goals as goal

pub loop-shape-preserved : goal.loop-shape-preserved
loop-shape-preserved c =
    let list = c.args.list.now in
    let shape = c.shape-item.result in
    let row = c.caller_row-in-loop-shape.result in
    let made : IsCaller list shape.name row = subst (λ (name : List ℕ). IsRow (of_caller name) list row) c.name.ensures c.caller_row-in-loop-shape.ensures in
    subst (λ (rows : List (List ℕ)). AllZip (IsCaller list) (callers (take (c.loop-shape.shape-index + 1) c.args.shapes.now)) rows) (sym c.in_ok-push-2.ensures.items)
    (zip_more (IsCaller list) (λ (s : Shape). s.name) (codes "Interrupts" ∷ []) c.args.shapes.now c.loop-shape.rows.items c.loop-shape.shape-index shape row c.loop-shape-test.true c.shape-item.is c.loop-shape.invariant made)
