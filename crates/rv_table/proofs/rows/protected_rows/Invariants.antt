use Rattle.std.proofs.Common.{take, map}
use Rattle.std.specs.List.{AllZip}
use Rattle.rv_shape.specs.Objects.{OperationShape}
use Rattle.rv_text.specs.Names.{dotted}
use Rattle.rv_table.specs.Tables.{IsSite}
use Rattle.rv_table.proofs.rows.protected_rows.Given as goal

-- the rows so far
abbrev pub invariant-loop-operation : goal.invariant-loop-operation
invariant-loop-operation l = AllZip (IsSite l.list (dotted l.unit l.object)) (map (λ (o : OperationShape). o.name) (take l.operation-index l.operations)) l.rows.items
