-- The bodies that values of the code stand for.
use Rattle.std.specs.Prelude.{ℕ, List, [], map, Option, Some, None, slice_get}
use Rattle.rv_code.specs.Bodies as t
use Rattle.rv_code.specs.ExpressionView.{expression_view}
use Rattle.rv_code.specs.StatementView.{statements_view}
use Rattle.rv_code.specs.declared.body.Declaration.{Declaration}
use Rattle.rv_code.specs.declared.body.Handler.{Handler}
use Rattle.rv_code.specs.declared.body.Body.{Body}
use Rattle.rv_code.specs.declared.body.ObjectBodies.{ObjectBodies}
use Rattle.rv_code.specs.declared.body.UnitBodies.{UnitBodies}

abbrev pub declaration_view : Declaration → t.Declaration
declaration_view d = record { target = d.target; initial = expression_view d.initial }

abbrev pub handler_view : Handler → t.Handler
handler_view h = record { choices = h.choices.items; statements = statements_view h.statements.items }

abbrev pub body_view : Body → t.Body
body_view b = record {
  parameters = b.parameters.items;
  is_function = b.is_function;
  declarations = map declaration_view b.declarations.items;
  statements = statements_view b.statements.items;
  handlers = map handler_view b.handlers.items;
}

abbrev pub object_view : ObjectBodies → List t.Body
object_view o = map body_view o.operations.items

abbrev pub maybe_body_view : Option Body → Option t.Body
maybe_body_view None = None
maybe_body_view (Some b) = Some (body_view b)

abbrev pub listed : Option ObjectBodies → List t.Body
listed None = []
listed (Some o) = object_view o

-- the bodies of the list of an index
abbrev pub list_at : List ObjectBodies → ℕ → List t.Body
list_at lists list = listed (slice_get lists list)

abbrev pub unit_view : UnitBodies → t.UnitBodies
unit_view u = record { objects = map (list_at u.lists.items) u.objects.items; tasks = map maybe_body_view u.tasks.items }
