use Rattle.std.proofs.Common.{◌≡◌, drop}
use Rattle.rv_conform.specs.Conforms.{is_declared}
use Rattle.rv_conform.proofs.conforms.is_declared.Given as goal

abbrev pub invariant-loop-declared : goal.invariant-loop-declared
invariant-loop-declared l = is_declared (drop l.declared-index l.declared-items) l.body ≡ is_declared l.declared-items l.body
