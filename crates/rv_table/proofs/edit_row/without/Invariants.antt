use Rattle.rv_table.specs.Rows.{without}
use Rattle.rv_table.proofs.Bits.{AreWords}
use Rattle.rv_table.proofs.edit_row.without.Given as goal

abbrev pub invariant-loop-w : goal.invariant-loop-w
invariant-loop-w l = AreWords (without l.place l.words) l.row l.w
