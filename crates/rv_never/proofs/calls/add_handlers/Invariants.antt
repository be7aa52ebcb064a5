use Rattle.std.proofs.Common.{◌≡◌, ◌++◌, drop, map}
use Rattle.rv_code.specs.BodyView.{handler_view}
use Rattle.rv_never.specs.Written.{of_handlers}
use Rattle.rv_never.proofs.calls.add_handlers.Given as goal

-- what is there, and then what the others call
abbrev pub invariant-loop-handler : goal.invariant-loop-handler
invariant-loop-handler l =
    l.calls.items ++ of_handlers (map handler_view (drop l.handler-index l.handlers))
    ≡ l.initial.calls.items ++ of_handlers (map handler_view l.handlers)
