use Rattle.std.proofs.Common.{[], arith}
use Rattle.rv_table.specs.Edits.{edited}
use Rattle.rv_table.specs.Rows.{is_open_at}
use Rattle.rv_table.specs.Spans.{IsOpenRow}
use Rattle.rv_table.proofs.EditedSpans.{always_open}
use Rattle.rv_table.proofs.Halves.{half_none, half_step, half_all}
use Rattle.rv_table.proofs.spans.edit_open_rows.Goals as goal

pub loop-i-init : goal.loop-i-init
loop-i-init c = λ list ticks long all. half_none (IsOpenRow list) (IsOpenRow (edited c.args.edit list)) ticks c.args.rows.now all

pub loop-i-preserved : goal.loop-i-preserved
loop-i-preserved c = λ list ticks long all.
    half_step (IsOpenRow list) (IsOpenRow (edited c.args.edit list)) ticks c.loop-i.rows c.loop-i.i c.edit_row.new.row (c.loop-i.invariant list ticks long all) (omega arith)
    (λ tick here old. c.edit_row.ensures list (is_open_at tick) long (always_open c.args.edit c.args.lines tick c.requires) (old []))

pub returns : goal.returns
returns c = λ list ticks long all. half_all (IsOpenRow list) (IsOpenRow (edited c.args.edit list)) ticks c.loop-i.rows c.loop-i.i (c.loop-i.invariant list ticks long all) (omega arith)
