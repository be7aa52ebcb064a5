use Rattle.std.proofs.Common.{◌≡◌, List, drop}
use Rattle.rv_code.specs.Bodies.{Body}
use Rattle.rv_code.specs.BodyView.{list_at, unit_view}
use Rattle.rv_types.specs.BodiesOf.{objects_compiled}
use Rattle.rv_types.proofs.protected.give_all.Given as goal

abbrev pub invariant-loop-object : goal.invariant-loop-object
invariant-loop-object l = record {
  lists : l.compiled.lists ≡ l.initial.compiled.lists;
  code : (same : List Body) → list_at l.initial.compiled.lists.items l.list ≡ same
      → objects_compiled same l.number l.index (drop l.object-index l.objects) (unit_view l.compiled)
      ≡ objects_compiled same l.number 0 l.objects (unit_view l.initial.compiled);
}
