use Rattle.std.proofs.Common.{◌≤◌, length}
use Rattle.rv_further.proofs.search.further.Given as goal

-- no more are found than may be
abbrev pub invariant-loop-turn : goal.invariant-loop-turn
invariant-loop-turn l = length l.found.items ≤ 5
