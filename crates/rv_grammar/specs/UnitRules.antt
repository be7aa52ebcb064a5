-- How whole unit texts are read.
use Rattle.std.specs.Prelude.{Bool, true, false, if◌then◌else◌}
use Rattle.rv_lex.specs.declared.kind.Kind.{Kind}
use Rattle.rv_lex.specs.declared.kind.Kind.TheVariants as k
use Rattle.rv_tree.specs.Units as t
use Rattle.rv_grammar.specs.Reading.{Parser, ◌>>=◌, ◌>>◌, pure, refuse, sees, next, by_kind, starts_by, eat, expect, many, listed}
use Rattle.rv_grammar.specs.NameRules.{identifier, name, end_name}
use Rattle.rv_grammar.specs.DeclarationRules.{a_pragma, begins_declaration, declaration}
use Rattle.rv_grammar.specs.BodyRules.{body_of, protected_body, task_body}

unfoldable pub with_clause : Parser t.ContextItem
with_clause = do
  at ← expect k.With
  names ← listed k.Comma name
  expect k.Semicolon
  pure (t.with_clause at names)

unfoldable pub use_clause : Parser t.ContextItem
use_clause = do
  at ← expect k.Use
  is_type ← eat k.Type
  names ← listed k.Comma name
  expect k.Semicolon
  pure (t.use_clause at is_type names)

abbrev pub begins_context_item : Kind → Bool
begins_context_item k.Pragma = true
begins_context_item k.With = true
begins_context_item k.Use = true
begins_context_item _ = false

abbrev pub context_item_by : Kind → Parser t.ContextItem
context_item_by k.Pragma = a_pragma >>= λ p. pure (t.context_pragma p)
context_item_by k.With = with_clause
context_item_by k.Use = use_clause
context_item_by _ = refuse

unfoldable pub context_item : Parser t.ContextItem
context_item = by_kind context_item_by

unfoldable pub specification : Parser t.PackageSpecification
specification = do
  at ← expect k.Package
  n ← identifier
  expect k.Is
  ds ← many (starts_by begins_declaration) declaration
  end ← end_name
  pure (record { at = at; name = n; declarations = ds; end_name = end })

-- a body where "body" comes second, else a declaration
unfoldable pub body_item : Parser t.BodyItem
body_item = λ i. if sees k.Body (next i)
    then (if sees k.Protected i then (protected_body >>= λ b. pure (t.body_protected b)) i
    else (if sees k.Task i then (task_body >>= λ b. pure (t.body_task b)) i else (declaration >>= λ d. pure (t.body_declaration d)) i))
    else (declaration >>= λ d. pure (t.body_declaration d)) i

unfoldable pub body : Parser t.PackageBody
body = body_of k.Package begins_declaration body_item (λ at n items end. record { at = at; name = n; items = items; end_name = end })

unfoldable pub unit : Parser t.UnitTree
unit = do
  context ← many (starts_by begins_context_item) context_item
  spec ← specification
  b ← body
  pure (record { context = context; specification = spec; body = b })
