-- Blocks and bodies (ISO/IEC 8652:2012, 6.3, 9.1, 9.4, 9.5.2, 11.2), one clause a production.
use Rattle.std.specs.Prelude.{List, [], ◌∷◌}
use Rattle.rv_lex.specs.declared.kind.Kind.TheVariants as k
use Rattle.rv_tree.specs.Phrases.{Phrase, ◌⨾◌, Is, IsAt, Nothing, Flag, Maybe, Each, AtLeastOne, Listed}
use Rattle.rv_tree.specs.NameGrammar.{IsIdentifier, IsName, AreIdentifiers, IsEnd}
use Rattle.rv_tree.specs.ExpressionGrammar.{IsExpression, IsRange}
use Rattle.rv_tree.specs.DeclarationGrammar.{IsPragma, AreParameters, IsInitial, IsProtectedUnit, IsTask}
use Rattle.rv_tree.specs.StatementGrammar.{AreStatements}
use Rattle.rv_tree.specs.Bodies.{Local, an_object, local_pragma, local_protected_unit, local_task, ExceptionChoice, exception_named, other_exceptions, Handler, Block, OperationBody, function_body, procedure_body, entry_body, ProtectedBody, TaskBody}

-- local = ids ":" ["constant"] mark [range] [":=" expr] ";" | pragma | prot | task
abbrev pub IsLocal : Local → Phrase
IsLocal (an_object names is_constant mark range value) =
    AreIdentifiers names ⨾ Is k.Colon ⨾ Flag k.Constant is_constant ⨾ IsName mark ⨾ Maybe IsRange range ⨾ Maybe IsInitial value ⨾ Is k.Semicolon
IsLocal (local_pragma p) = IsPragma p
IsLocal (local_protected_unit u) = IsProtectedUnit u
IsLocal (local_task t) = IsTask t

-- choice = name | "others"
abbrev pub IsExceptionChoice : ExceptionChoice → Phrase
IsExceptionChoice (exception_named name) = IsName name
IsExceptionChoice (other_exceptions at) = IsAt k.Others at

-- handler = "when" choice {"|" choice} "=>" stmts
abbrev pub IsHandler : Handler → Phrase
IsHandler h = IsAt k.When h.at ⨾ Listed k.Bar IsExceptionChoice h.choices ⨾ Is k.Arrow ⨾ AreStatements h.statements

-- ["exception" handler {handler}]
abbrev pub AreHandlers : List Handler → Phrase
AreHandlers [] = Nothing
AreHandlers (h ∷ more) = Is k.Exception ⨾ AtLeastOne IsHandler (h ∷ more)

-- block = {local} "begin" stmts ["exception" handler {handler}] "end" [id] ";"
abbrev pub IsBlock : Block → Phrase
IsBlock b = Each IsLocal b.locals ⨾ Is k.Begin ⨾ AreStatements b.statements ⨾ AreHandlers b.handlers ⨾ IsEnd b.end_name

-- obody = "function" id [params] "return" mark "is" block | "procedure" id [params] "is" block
--       | "entry" id [params] "when" expr "is" block
abbrev pub IsOperationBody : OperationBody → Phrase
IsOperationBody (function_body at name parameters mark block) =
    IsAt k.Function at ⨾ IsIdentifier name ⨾ AreParameters parameters ⨾ Is k.Return ⨾ IsName mark ⨾ Is k.Is ⨾ IsBlock block
IsOperationBody (procedure_body at name parameters block) =
    IsAt k.Procedure at ⨾ IsIdentifier name ⨾ AreParameters parameters ⨾ Is k.Is ⨾ IsBlock block
IsOperationBody (entry_body at name parameters barrier block) =
    IsAt k.Entry at ⨾ IsIdentifier name ⨾ AreParameters parameters ⨾ Is k.When ⨾ IsExpression barrier ⨾ Is k.Is ⨾ IsBlock block

-- pbody = "protected" "body" id "is" {obody} "end" [id] ";"
abbrev pub IsProtectedBody : ProtectedBody → Phrase
IsProtectedBody b = IsAt k.Protected b.at ⨾ Is k.Body ⨾ IsIdentifier b.name ⨾ Is k.Is ⨾ Each IsOperationBody b.operations ⨾ IsEnd b.end_name

-- tbody = "task" "body" id "is" block
abbrev pub IsTaskBody : TaskBody → Phrase
IsTaskBody b = IsAt k.Task b.at ⨾ Is k.Body ⨾ IsIdentifier b.name ⨾ Is k.Is ⨾ IsBlock b.block
