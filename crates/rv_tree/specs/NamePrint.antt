-- How identifiers and names are printed.
use Rattle.std.specs.Prelude.{Option}
use Rattle.rv_lex.specs.declared.kind.Kind.TheVariants as k
use Rattle.rv_tree.specs.Names.{Identifier, Name}
use Rattle.rv_tree.specs.Onto.{Onto, ◌▷◌, bytes_onto, kind_onto, maybe_onto, each_onto, after_onto}

abbrev pub identifier_onto : Identifier → Onto
identifier_onto i = bytes_onto i.text

abbrev pub name_onto : Name → Onto
name_onto n = identifier_onto n.first ▷ each_onto (after_onto k.Dot identifier_onto) n.more

abbrev pub end_onto : Option Identifier → Onto
end_onto name = kind_onto k.End ▷ maybe_onto identifier_onto name ▷ kind_onto k.Semicolon
