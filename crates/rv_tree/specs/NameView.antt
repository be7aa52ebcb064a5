-- The names that values of the code stand for.
use Rattle.std.specs.Prelude.{List, map, string_bytes}
use Rattle.rv_tree.specs.Names as t
use Rattle.rv_tree.specs.declared.name.Identifier.{Identifier}
use Rattle.rv_tree.specs.declared.name.Name.{Name}

abbrev pub identifier_view : Identifier → t.Identifier
identifier_view i = record { at = i.at; text = string_bytes i.text }

abbrev pub identifiers_view : List Identifier → List t.Identifier
identifiers_view = map identifier_view

abbrev pub name_view : Name → t.Name
name_view n = record { first = identifier_view n.first; more = map identifier_view n.more.items }

abbrev pub names_view : List Name → List t.Name
names_view = map name_view
