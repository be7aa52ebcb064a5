use Rattle.std.proofs.Common.{[], sym, subst, List, ℕ, take, map, ◌+◌}
use Rattle.std.specs.List.{AllZip}
use Rattle.rv_shape.specs.Objects.{OperationShape}
use Rattle.rv_text.specs.Names.{dotted}
use Rattle.rv_table.specs.Rows.{IsRow, of_site}
use Rattle.rv_table.specs.Tables.{IsSite}
use Rattle.rv_table.proofs.Zips.{zip_more}
use Rattle.rv_table.proofs.rows.protected_rows.Goals as goal

pub loop-operation-preserved : goal.loop-operation-preserved
loop-operation-preserved c =
    let list = c.args.list.now in
    let site = dotted c.args.unit.now c.args.object.now in
    let operation = c.operation-item.result in
    let row = c.site_row.result in
    let made : IsSite list site operation.name row = subst (λ (name : List ℕ). IsRow (of_site site name) list row) c.name.ensures c.site_row.ensures in
    subst (λ (rows : List (List ℕ)). AllZip (IsSite list site) (map (λ (o : OperationShape). o.name) (take (c.loop-operation.operation-index + 1) c.args.operations.now)) rows) (sym c.in_ok-push.ensures.items)
    (zip_more (IsSite list site) (λ (o : OperationShape). o.name) [] c.args.operations.now c.loop-operation.rows.items c.loop-operation.operation-index operation row c.loop-operation-test.true c.operation-item.is c.loop-operation.invariant made)
