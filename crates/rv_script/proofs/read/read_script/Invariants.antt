use Rattle.std.proofs.Common.{◌≤◌, ◌-◌, length}
use Rattle.std.specs.Io.KnownBytes.{Consumes}
use Rattle.rv_script.proofs.read.read_script.Given as goal

abbrev pub invariant-loop-chunk : goal.invariant-loop-chunk
invariant-loop-chunk g l =
    (length l.all.items ≤ 16777217) × Consumes (g.R.Read.remaining l.fn.reader) (g.R.Read.remaining l.reader) l.all.items

abbrev pub decreases-loop-chunk : goal.decreases-loop-chunk
decreases-loop-chunk g l = 16777217 - length l.all.items
