use Rattle.std.proofs.Common.{◌≡◌, drop, map}
use Rattle.std.specs.List.{list_all}
use Rattle.rv_tree.specs.BodyView.{handler_view}
use Rattle.rv_names.specs.Jumps.{handler_is_placed}
use Rattle.rv_names.proofs.jumps.handlers_fault.Given as goal

abbrev pub invariant-loop-handler : goal.invariant-loop-handler
invariant-loop-handler l =
    list_all handler_is_placed (map handler_view (drop l.handler-index l.handler-items)) ≡ list_all handler_is_placed (map handler_view l.handler-items)
