use Rattle.std.proofs.Common.{◌++◌, take}
use Rattle.rv_never.specs.Written.{AreSame}
use Rattle.rv_never.proofs.calls.add_all_new.Given as goal

-- those that were there, and the others so far
abbrev pub invariant-loop-called : goal.invariant-loop-called
invariant-loop-called l = AreSame l.calls.items (l.initial.calls.items ++ take l.called-index l.others)
