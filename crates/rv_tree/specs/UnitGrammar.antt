-- Whole unit texts (ISO/IEC 8652:2012, 7.1, 7.2, 10.1), one clause a production.
use Rattle.rv_lex.specs.declared.kind.Kind.TheVariants as k
use Rattle.rv_tree.specs.Phrases.{Phrase, ◌⨾◌, Is, IsAt, Flag, Each}
use Rattle.rv_tree.specs.NameGrammar.{IsIdentifier, AreNames, IsEnd}
use Rattle.rv_tree.specs.DeclarationGrammar.{IsPragma, IsDeclaration}
use Rattle.rv_tree.specs.BodyGrammar.{IsProtectedBody, IsTaskBody}
use Rattle.rv_tree.specs.Units.{ContextItem, context_pragma, with_clause, use_clause, PackageSpecification, BodyItem, body_declaration, body_protected, body_task, PackageBody, UnitTree}

-- pragma | context
-- context = "with" name {"," name} ";" | "use" ["type"] name {"," name} ";"
abbrev pub IsContextItem : ContextItem → Phrase
IsContextItem (context_pragma p) = IsPragma p
IsContextItem (with_clause at names) = IsAt k.With at ⨾ AreNames names ⨾ Is k.Semicolon
IsContextItem (use_clause at is_type names) = IsAt k.Use at ⨾ Flag k.Type is_type ⨾ AreNames names ⨾ Is k.Semicolon

-- spec = "package" id "is" {decl} "end" [id] ";"
abbrev pub IsSpecification : PackageSpecification → Phrase
IsSpecification s = IsAt k.Package s.at ⨾ IsIdentifier s.name ⨾ Is k.Is ⨾ Each IsDeclaration s.declarations ⨾ IsEnd s.end_name

-- decl | pbody | tbody
abbrev pub IsBodyItem : BodyItem → Phrase
IsBodyItem (body_declaration d) = IsDeclaration d
IsBodyItem (body_protected b) = IsProtectedBody b
IsBodyItem (body_task b) = IsTaskBody b

-- body = "package" "body" id "is" {decl | pbody | tbody} "end" [id] ";"
abbrev pub IsBody : PackageBody → Phrase
IsBody b = IsAt k.Package b.at ⨾ Is k.Body ⨾ IsIdentifier b.name ⨾ Is k.Is ⨾ Each IsBodyItem b.items ⨾ IsEnd b.end_name

-- text = {pragma | context} spec body
abbrev pub IsUnit : UnitTree → Phrase
IsUnit u = Each IsContextItem u.context ⨾ IsSpecification u.specification ⨾ IsBody u.body
