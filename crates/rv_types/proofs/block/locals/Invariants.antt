use Rattle.std.proofs.Common.{◌≡◌, drop, map}
use Rattle.rv_tree.specs.BodyView.{local_view}
use Rattle.rv_scope.specs.Scope.{OnlyDeclares}
use Rattle.rv_code.specs.BodyView.{declaration_view}
use Rattle.rv_types.specs.Blocks.{locals_onto, opened_with}
use Rattle.rv_types.proofs.block.locals.Given as goal

abbrev pub invariant-loop-one : goal.invariant-loop-one
invariant-loop-one l = record {
  code : locals_onto (map local_view (drop l.one-index l.one-items)) (opened_with l.point (map declaration_view l.done.items))
      ≡ locals_onto (map local_view l.one-items) (opened_with l.initial.point (map declaration_view l.initial.done.items));
  only : OnlyDeclares l.initial.point.scope l.point.scope;
}
