use Rattle.std.proofs.Common.{◌∙◌, ℕ, [], List, arith, subst}
use Rattle.rv_access.specs.Lines.{fits}
use Rattle.rv_access.specs.Words.{Words}
use Rattle.rv_shape.specs.Catalogue.{dotted}
use Rattle.rv_shape.specs.Fits.{object_name}
use Rattle.rv_shape.specs.Names.{operation_names}
use Rattle.rv_table.specs.Edits.{Brings, edited}
use Rattle.rv_table.specs.Tables.{IsSite}
use Rattle.rv_table.proofs.Halves.{half_none, half_step, half_all}
use Rattle.rv_table.proofs.rows.edit_operations.Goals as goal

pub loop-i-init : goal.loop-i-init
loop-i-init c = λ list long all.
    let site = dotted c.args.unit.now (object_name c.args.object.now) in
    half_none (IsSite list site) (IsSite (edited c.args.edit list) site) (operation_names c.args.object.now) c.args.rows.now all

pub loop-i-preserved : goal.loop-i-preserved
loop-i-preserved c = λ list long all.
    let site = dotted c.args.unit.now (object_name c.args.object.now) in
    let brings : Brings c.args.edit (λ (line : Words). fits line.object site) c.is_of_object-is_of_object.result =
    subst (λ (name : List ℕ). Brings c.args.edit (λ (line : Words). fits line.object (dotted c.args.unit.now name)) c.is_of_object-is_of_object.result) c.name.ensures c.is_of_object-is_of_object.ensures in
    half_step (IsSite list site) (IsSite (edited c.args.edit list) site) (operation_names c.args.object.now) c.loop-i.rows c.loop-i.i c.edit_operation.new.row (c.loop-i.invariant list long all) (omega arith)
    (λ name here old. c.edit_operation.ensures list site name long (c.operation_name.ensures ∙ here) brings (old []))

pub returns : goal.returns
returns c = λ list long all.
    let site = dotted c.args.unit.now (object_name c.args.object.now) in
    half_all (IsSite list site) (IsSite (edited c.args.edit list) site) (operation_names c.args.object.now) c.loop-i.rows c.loop-i.i (c.loop-i.invariant list long all) (omega arith)
