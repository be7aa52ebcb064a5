use Rattle.std.proofs.Common.{◌≡◌, drop, map}
use Rattle.rv_tree.specs.NameView.{identifiers_view}
use Rattle.rv_tree.specs.DeclarationView.{maybe}
use Rattle.rv_tree.specs.ExpressionView.{expression_view}
use Rattle.rv_code.specs.BodyView.{declaration_view}
use Rattle.rv_types.specs.Blocks.{objects_onto, opened_with}
use Rattle.rv_types.proofs.block.objects.Given as goal

abbrev pub invariant-loop-name : goal.invariant-loop-name
invariant-loop-name l = record {
  code : objects_onto l.range l.is_written (maybe expression_view l.given) (identifiers_view (drop l.name-index l.name-items))
      (opened_with l.point (map declaration_view l.done.items))
      ≡ objects_onto l.range l.is_written (maybe expression_view l.given) (identifiers_view l.name-items)
      (opened_with l.initial.point (map declaration_view l.initial.done.items));
  scope : l.point.scope ≡ l.initial.point.scope;
}
