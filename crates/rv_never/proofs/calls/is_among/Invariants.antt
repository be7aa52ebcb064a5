use Rattle.std.proofs.Common.{◌≡◌, take, false}
use Rattle.rv_never.specs.Written.{is_among}
use Rattle.rv_never.proofs.calls.is_among.Given as goal

-- it is none of those so far
abbrev pub invariant-loop-other : goal.invariant-loop-other
invariant-loop-other l = is_among (take l.other-index l.calls) l.called ≡ false
