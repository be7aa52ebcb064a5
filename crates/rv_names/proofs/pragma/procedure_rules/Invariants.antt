use Rattle.std.proofs.Common.{◌≡◌}
use Rattle.rv_names.proofs.pragma.procedure_rules.Given as goal

abbrev pub invariant-loop-aspect : goal.invariant-loop-aspect
invariant-loop-aspect l = l.faults ≡ l.initial.faults
