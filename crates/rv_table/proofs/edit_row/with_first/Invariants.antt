use Rattle.rv_table.specs.Rows.{with_first}
use Rattle.rv_table.proofs.Bits.{AreWords}
use Rattle.rv_table.proofs.edit_row.with_first.Given as goal

abbrev pub invariant-loop-w : goal.invariant-loop-w
invariant-loop-w l = AreWords (with_first l.is_marked l.words) l.row l.w
