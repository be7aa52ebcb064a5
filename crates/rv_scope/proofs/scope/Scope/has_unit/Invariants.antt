use Rattle.std.proofs.Common.{◌≡◌, ◌==◌, drop}
use Rattle.std.specs.List.{list_any}
use Rattle.rv_scope.proofs.scope.Scope.has_unit.Given as goal

abbrev pub invariant-loop-other : goal.invariant-loop-other
invariant-loop-other l =
    list_any (λ other. other == l.index) (drop l.other-index l.other-items) ≡ list_any (λ other. other == l.index) l.other-items
