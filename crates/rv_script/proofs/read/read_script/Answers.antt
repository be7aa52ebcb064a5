use Rattle.std.proofs.Common.{arith, rules}
use Rattle.rv_script.proofs.ReadAll.{read_end, read_full}
use Rattle.rv_script.proofs.read.read_script.Goals as goal

pub returns-clause-bytes : goal.returns-clause-bytes
returns-clause-bytes g c = read_full 16777217 _ _ c.loop-chunk.all.items c.loop-chunk.invariant.1 (omega (arith, c.loop-chunk.invariant.0)) (omega arith)

pub returns-then-count-lt1-clause-bytes : goal.returns-then-count-lt1-clause-bytes
returns-then-count-lt1-clause-bytes g c =
    read_end 16777217 _ _ _ c.loop-chunk.all.items _ c.in-Ok.count c.loop-chunk.invariant.1 c.in-Ok.ensures.bytes.0 c.in-Ok.ensures.bytes.1 (omega arith) (search rules) c.loop-chunk.invariant.0
