use Rattle.std.proofs.Common.{◌≡◌, drop, map}
use Rattle.rv_tree.specs.BodyView.{handler_view}
use Rattle.rv_scope.specs.Bound.{judged}
use Rattle.rv_scope.specs.UnitUses.{handlers_uses}
use Rattle.rv_names.proofs.body.handlers.Given as goal

abbrev pub invariant-loop-handler : goal.invariant-loop-handler
invariant-loop-handler l = record {
  scope : l.scope ≡ l.initial.scope;
  faults : handlers_uses judged l.initial.scope (map handler_view (drop l.handler-index l.handler-items)) l.faults
      ≡ handlers_uses judged l.initial.scope (map handler_view l.handler-items) l.initial.faults;
}
