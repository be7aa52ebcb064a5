use Rattle.std.proofs.Common.{◌≡◌, drop}
use Rattle.rv_scope.specs.Visible.{used_item}
use Rattle.rv_scope.proofs.scope.Scope.used_item.Given as goal

abbrev pub invariant-loop-library : goal.invariant-loop-library
invariant-loop-library l = used_item l.self l.name (drop l.library-index l.library-items) ≡ used_item l.self l.name l.library-items
