-- Declarations of packages, protected units and tasks, one clause a production.
use Rattle.std.specs.Prelude.{List, [], ◌∷◌, Option, Some, None}
use Rattle.rv_lex.specs.declared.kind.Kind.TheVariants as k
use Rattle.rv_tree.specs.declared.declaration.Mode.{Mode}
use Rattle.rv_tree.specs.declared.declaration.Mode.TheVariants.{NotWritten, In, Out, InOut}
use Rattle.rv_tree.specs.Phrases.{Phrase, ◌⨾◌, Is, IsAt, Nothing, Flag, Maybe, Each, After, Listed, Enclosed}
use Rattle.rv_tree.specs.Names.{Identifier}
use Rattle.rv_tree.specs.NameGrammar.{IsIdentifier, IsName, AreIdentifiers, IsEnd}
use Rattle.rv_tree.specs.Expressions.{Expression}
use Rattle.rv_tree.specs.ExpressionGrammar.{IsExpression, IsRange}
use Rattle.rv_tree.specs.Declarations.{Pragma, PragmaArgument, Aspect, Parameter, EntryDeclaration, OperationDeclaration, a_pragma, a_function, a_procedure, an_entry, ProtectedElement, an_operation, a_component, ProtectedUnit, TaskItem, task_pragma, task_entry, TaskDefinition, TaskUnit, Declaration, package_pragma, a_subtype, a_protected_unit, a_task, a_variable, a_constant}

-- id "=>", before the value of an argument
abbrev pub IsNamed : Identifier → Phrase
IsNamed name = IsIdentifier name ⨾ Is k.Arrow

-- parg = [id "=>"] expr
abbrev pub IsPragmaArgument : PragmaArgument → Phrase
IsPragmaArgument a = Maybe IsNamed a.name ⨾ IsExpression a.value

-- pragma = "pragma" id ["(" parg {"," parg} ")"] ";"
abbrev pub IsPragma : Pragma → Phrase
IsPragma p = IsAt k.Pragma p.at ⨾ IsIdentifier p.name ⨾ Enclosed k.LeftParenthesis k.Comma k.RightParenthesis IsPragmaArgument p.arguments ⨾ Is k.Semicolon

-- "=>" expr
abbrev pub IsGiven : Expression → Phrase
IsGiven = After k.Arrow IsExpression

-- ":=" expr
abbrev pub IsInitial : Expression → Phrase
IsInitial = After k.Becomes IsExpression

-- id ["=>" expr]
abbrev pub IsAspect : Aspect → Phrase
IsAspect a = IsIdentifier a.name ⨾ Maybe IsGiven a.value

-- [aspects]; aspects = "with" id ["=>" expr] {"," id ["=>" expr]}
abbrev pub AreAspects : List Aspect → Phrase
AreAspects [] = Nothing
AreAspects (a ∷ more) = Is k.With ⨾ Listed k.Comma IsAspect (a ∷ more)

-- ["in"] ["out"]
abbrev pub IsMode : Mode → Phrase
IsMode NotWritten = Nothing
IsMode In = Is k.In
IsMode Out = Is k.Out
IsMode InOut = Is k.In ⨾ Is k.Out

-- param = ids ":" ["in"] ["out"] mark
abbrev pub IsParameter : Parameter → Phrase
IsParameter p = AreIdentifiers p.names ⨾ Is k.Colon ⨾ IsMode p.mode ⨾ IsName p.mark

-- [params]; params = "(" param {";" param} ")"
abbrev pub AreParameters : List Parameter → Phrase
AreParameters = Enclosed k.LeftParenthesis k.Semicolon k.RightParenthesis IsParameter

-- entry = "entry" id [params] ";"
abbrev pub IsEntry : EntryDeclaration → Phrase
IsEntry e = IsAt k.Entry e.at ⨾ IsIdentifier e.name ⨾ AreParameters e.parameters ⨾ Is k.Semicolon

-- pragma | op
-- op = "function" id [params] "return" mark ";" | "procedure" id [params] [aspects] ";" | entry
abbrev pub IsOperation : OperationDeclaration → Phrase
IsOperation (a_pragma p) = IsPragma p
IsOperation (a_function at name parameters mark) = IsAt k.Function at ⨾ IsIdentifier name ⨾ AreParameters parameters ⨾ Is k.Return ⨾ IsName mark ⨾ Is k.Semicolon
IsOperation (a_procedure at name parameters aspects) = IsAt k.Procedure at ⨾ IsIdentifier name ⨾ AreParameters parameters ⨾ AreAspects aspects ⨾ Is k.Semicolon
IsOperation (an_entry e) = IsEntry e

-- pragma | op | comp
-- comp = ids ":" mark [range] [":=" expr] ";"
abbrev pub IsElement : ProtectedElement → Phrase
IsElement (an_operation o) = IsOperation o
IsElement (a_component names mark range value) = AreIdentifiers names ⨾ Is k.Colon ⨾ IsName mark ⨾ Maybe IsRange range ⨾ Maybe IsInitial value ⨾ Is k.Semicolon

-- "private" {pragma | op | comp}
abbrev pub IsPrivatePart : List ProtectedElement → Phrase
IsPrivatePart elements = Is k.Private ⨾ Each IsElement elements

-- prot = "protected" ["type"] id [aspects] "is" {pragma | op} ["private" {pragma | op | comp}] "end" [id] ";"
abbrev pub IsProtectedUnit : ProtectedUnit → Phrase
IsProtectedUnit u = IsAt k.Protected u.at ⨾ Flag k.Type u.is_type ⨾ IsIdentifier u.name ⨾ AreAspects u.aspects ⨾ Is k.Is ⨾ Each IsOperation u.operations ⨾ Maybe IsPrivatePart u.private ⨾ IsEnd u.end_name

-- pragma | entry
abbrev pub IsTaskItem : TaskItem → Phrase
IsTaskItem (task_pragma p) = IsPragma p
IsTaskItem (task_entry e) = IsEntry e

-- ";" | "is" {pragma | entry} "end" [id] ";"
abbrev pub IsTaskDefinition : Option TaskDefinition → Phrase
IsTaskDefinition None = Is k.Semicolon
IsTaskDefinition (Some d) = Is k.Is ⨾ Each IsTaskItem d.items ⨾ IsEnd d.end_name

-- task = "task" id [aspects] (";" | "is" {pragma | entry} "end" [id] ";")
abbrev pub IsTask : TaskUnit → Phrase
IsTask t = IsAt k.Task t.at ⨾ IsIdentifier t.name ⨾ AreAspects t.aspects ⨾ IsTaskDefinition t.definition

-- decl = pragma | "subtype" id "is" mark [range] ";" | prot | task | ids ":" (mark | "constant" [mark] ":=" expr) ";"
abbrev pub IsDeclaration : Declaration → Phrase
IsDeclaration (package_pragma p) = IsPragma p
IsDeclaration (a_subtype at name mark range) = IsAt k.Subtype at ⨾ IsIdentifier name ⨾ Is k.Is ⨾ IsName mark ⨾ Maybe IsRange range ⨾ Is k.Semicolon
IsDeclaration (a_protected_unit u) = IsProtectedUnit u
IsDeclaration (a_task t) = IsTask t
IsDeclaration (a_variable names mark) = AreIdentifiers names ⨾ Is k.Colon ⨾ IsName mark ⨾ Is k.Semicolon
IsDeclaration (a_constant names mark value) = AreIdentifiers names ⨾ Is k.Colon ⨾ Is k.Constant ⨾ Maybe IsName mark ⨾ IsInitial value ⨾ Is k.Semicolon
