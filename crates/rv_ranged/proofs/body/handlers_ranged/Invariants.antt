use Rattle.std.proofs.Common.{◌≡◌, drop, map}
use Rattle.std.specs.List.{list_all}
use Rattle.rv_code.specs.BodyView.{handler_view}
use Rattle.rv_ranged.specs.Ranged.{handler_ranged}
use Rattle.rv_ranged.proofs.body.handlers_ranged.Given as goal

abbrev pub invariant-loop-handler : goal.invariant-loop-handler
invariant-loop-handler l =
    list_all (handler_ranged l.units l.stand) (map handler_view (drop l.handler-index l.handler-items))
    ≡ list_all (handler_ranged l.units l.stand) (map handler_view l.handler-items)
