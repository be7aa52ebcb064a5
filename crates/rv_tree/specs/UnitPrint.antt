-- How whole unit texts are printed.
use Rattle.rv_lex.specs.declared.kind.Kind.TheVariants as k
use Rattle.rv_tree.specs.Onto.{Onto, ◌▷◌, kind_onto, flag_onto, each_onto, listed_onto}
use Rattle.rv_tree.specs.NamePrint.{identifier_onto, name_onto, end_onto}
use Rattle.rv_tree.specs.DeclarationPrint.{pragma_onto, declaration_onto}
use Rattle.rv_tree.specs.BodyPrint.{protected_body_onto, task_body_onto}
use Rattle.rv_tree.specs.Units.{ContextItem, context_pragma, with_clause, use_clause, PackageSpecification, BodyItem, body_declaration, body_protected, body_task, PackageBody, UnitTree}

abbrev pub context_item_onto : ContextItem → Onto
context_item_onto (context_pragma p) = pragma_onto p
context_item_onto (with_clause at names) = kind_onto k.With ▷ listed_onto k.Comma name_onto names ▷ kind_onto k.Semicolon
context_item_onto (use_clause at is_type names) = kind_onto k.Use ▷ flag_onto k.Type is_type ▷ listed_onto k.Comma name_onto names ▷ kind_onto k.Semicolon

abbrev pub specification_onto : PackageSpecification → Onto
specification_onto s = kind_onto k.Package ▷ identifier_onto s.name ▷ kind_onto k.Is ▷ each_onto declaration_onto s.declarations ▷ end_onto s.end_name

abbrev pub body_item_onto : BodyItem → Onto
body_item_onto (body_declaration d) = declaration_onto d
body_item_onto (body_protected b) = protected_body_onto b
body_item_onto (body_task b) = task_body_onto b

abbrev pub body_onto : PackageBody → Onto
body_onto b = kind_onto k.Package ▷ kind_onto k.Body ▷ identifier_onto b.name ▷ kind_onto k.Is ▷ each_onto body_item_onto b.items ▷ end_onto b.end_name

abbrev pub unit_onto : UnitTree → Onto
unit_onto u = each_onto context_item_onto u.context ▷ specification_onto u.specification ▷ body_onto u.body
