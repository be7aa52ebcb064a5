use Rattle.std.proofs.Common.{◌≡◌, drop, map}
use Rattle.std.specs.List.{list_all}
use Rattle.rv_code.specs.BodyView.{declaration_view}
use Rattle.rv_ranged.specs.Ranged.{declaration_ranged}
use Rattle.rv_ranged.proofs.body.declarations_ranged.Given as goal

abbrev pub invariant-loop-d : goal.invariant-loop-d
invariant-loop-d l =
    list_all (declaration_ranged l.units l.stand) (map declaration_view (drop l.d-index l.d-items))
    ≡ list_all (declaration_ranged l.units l.stand) (map declaration_view l.d-items)
