use Rattle.std.proofs.Common.{◌≡◌}
use Rattle.rv_names.proofs.pragma.protected_rules.Given as goal

abbrev pub invariant-loop-operation : goal.invariant-loop-operation
invariant-loop-operation l = l.faults ≡ l.initial.faults

abbrev pub invariant-loop-element : goal.invariant-loop-element
invariant-loop-element l = l.faults ≡ l.initial.faults
