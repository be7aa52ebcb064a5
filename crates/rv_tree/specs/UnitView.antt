-- The unit text's tree that a value of the code stands for.
use Rattle.std.specs.Prelude.{map}
use Rattle.rv_tree.specs.Units as t
use Rattle.rv_tree.specs.NameView.{identifier_view, names_view}
use Rattle.rv_tree.specs.DeclarationView.{maybe, pragma_view, declaration_view}
use Rattle.rv_tree.specs.BodyView.{protected_body_view, task_body_view}
use Rattle.rv_tree.specs.declared.unit.ContextItem.{ContextItem}
use Rattle.rv_tree.specs.declared.unit.ContextItem.TheVariants as context
use Rattle.rv_tree.specs.declared.unit.PackageSpecification.{PackageSpecification}
use Rattle.rv_tree.specs.declared.unit.BodyItem.{BodyItem}
use Rattle.rv_tree.specs.declared.unit.BodyItem.TheVariants as item
use Rattle.rv_tree.specs.declared.unit.PackageBody.{PackageBody}
use Rattle.rv_tree.specs.declared.unit.UnitTree.{UnitTree}

abbrev pub context_item_view : ContextItem → t.ContextItem
context_item_view (context.Pragma p) = t.context_pragma (pragma_view p)
context_item_view (context.With at names) = t.with_clause at (names_view names.items)
context_item_view (context.Use at is_type names) = t.use_clause at is_type (names_view names.items)

abbrev pub specification_view : PackageSpecification → t.PackageSpecification
specification_view s = record { at = s.at; name = identifier_view s.name; declarations = map declaration_view s.declarations.items; end_name = maybe identifier_view s.end_name }

abbrev pub body_item_view : BodyItem → t.BodyItem
body_item_view (item.Declaration d) = t.body_declaration (declaration_view d)
body_item_view (item.Protected b) = t.body_protected (protected_body_view b)
body_item_view (item.Task b) = t.body_task (task_body_view b)

abbrev pub body_view : PackageBody → t.PackageBody
body_view b = record { at = b.at; name = identifier_view b.name; items = map body_item_view b.items.items; end_name = maybe identifier_view b.end_name }

abbrev pub unit_view : UnitTree → t.UnitTree
unit_view u = record { context = map context_item_view u.context.items; specification = specification_view u.specification; body = body_view u.body }
