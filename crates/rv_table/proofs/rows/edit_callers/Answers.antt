use Rattle.std.proofs.Common.{◌∙◌, [], arith}
use Rattle.rv_table.specs.Edits.{edited}
use Rattle.rv_table.specs.Tables.{IsCaller, callers}
use Rattle.rv_table.proofs.Halves.{half_none, half_step, half_all}
use Rattle.rv_table.proofs.rows.edit_callers.Goals as goal

pub loop-i-init : goal.loop-i-init
loop-i-init c = λ list long all. half_none (IsCaller list) (IsCaller (edited c.args.edit list)) (callers c.args.shapes.now) c.args.rows.now all

pub loop-i-preserved : goal.loop-i-preserved
loop-i-preserved c = λ list long all.
    half_step (IsCaller list) (IsCaller (edited c.args.edit list)) (callers c.args.shapes.now) c.loop-i.rows c.loop-i.i c.edit_caller.new.row (c.loop-i.invariant list long all) (omega arith)
    (λ name here old. c.edit_caller.ensures list name long (c.caller_name.ensures ∙ here) (old []))

pub returns : goal.returns
returns c = λ list long all. half_all (IsCaller list) (IsCaller (edited c.args.edit list)) (callers c.args.shapes.now) c.loop-i.rows c.loop-i.i (c.loop-i.invariant list long all) (omega arith)
