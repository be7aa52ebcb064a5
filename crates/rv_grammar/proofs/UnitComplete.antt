-- Bodies and unit texts of the grammar are read, unless they nest too deep.
use Rattle.std.proofs.Common.{◌≡◌, ℕ, Bool, true, false, List, [], ◌∷◌, Option, refl, ap, ◌∙◌, arith}
use Rattle.rv_lex.specs.declared.kind.Kind.{Kind}
use Rattle.rv_lex.specs.declared.kind.Kind.TheVariants as k
use Rattle.rv_lex.specs.Lexes.{Lexeme}
use Rattle.rv_tree.specs.Phrases.{Phrase, ◌⨾◌, Is, IsAt, Flag, Each}
use Rattle.rv_tree.specs.Names.{Identifier, Name}
use Rattle.rv_tree.specs.NameGrammar.{IsIdentifier, IsName, AreNames, IsEnd}
use Rattle.rv_tree.specs.Expressions as e
use Rattle.rv_tree.specs.DeclarationGrammar.{IsProtectedUnit, IsDeclaration}
use Rattle.rv_tree.specs.Declarations as d
use Rattle.rv_tree.specs.Statements as s
use Rattle.rv_tree.specs.StatementGrammar.{AreStatements}
use Rattle.rv_tree.specs.Bodies as t
use Rattle.rv_tree.specs.BodyGrammar.{IsLocal, IsExceptionChoice, IsHandler, AreHandlers, IsBlock, IsOperationBody, IsProtectedBody, IsTaskBody}
use Rattle.rv_tree.specs.Units as u
use Rattle.rv_tree.specs.UnitGrammar.{IsContextItem, IsSpecification, IsBodyItem, IsBody, IsUnit}
use Rattle.rv_grammar.specs.Reading.{Parser, and_then, pure, same_kind, sees, next, starts_by, many, listed, optional, optional_after}
use Rattle.rv_grammar.specs.NameRules.{identifier, name, end_name}
use Rattle.rv_grammar.specs.DeclarationRules.{any_expression, range, a_pragma, parameters, protected_unit, task, begins_declaration, declaration}
use Rattle.rv_grammar.specs.StatementRules.{sees_statement, statement}
use Rattle.rv_grammar.specs.BodyRules.{any_statements, local_object, begins_local, local_by, a_local, exception_choice, handler, handlers, block, function_body, procedure_body, entry_body, begins_operation_body, operation_body_by, operation_body, body_of, protected_body, task_body}
use Rattle.rv_grammar.specs.UnitRules.{with_clause, use_clause, begins_context_item, context_item_by, context_item, specification, body_item, body, unit}
use Rattle.rv_grammar.proofs.Forward.{Answers, answers_then, if_true, if_false, sees_it, next_it, is_of, not_both, at_then, word_then, eaten_then, uneaten_then, flag_seen, flag_after, identifier_it, Shorter, NotLonger, is_shorter, at_shorter, identifier_shorter, nothing_shorter, flag_shorter, each_shorter, listed_shorter, Complete, many_it, at_least_one_it, listed_it}
use Rattle.rv_grammar.proofs.ExpressionComplete.{name_shorter, name_it, ends_at, expression_shorter}
use Rattle.rv_grammar.proofs.DeclarationComplete.{Unseen, Anything, starts_is, by_kind_it, any_it, identifiers_it, identifiers_shorter, first_identifier, end_it, end_shorter, maybe_range_it, maybe_range_shorter, initial_it, initial_shorter, after_mark, after_range, pragma_it, pragma_shorter, parameters_it, parameters_shorter, protected_it, protected_shorter, task_it, task_shorter, declaration_it, declaration_starts, declaration_shorter}
use Rattle.rv_grammar.proofs.StatementComplete.{sequence_shorter, names_it}
use Rattle.rv_grammar.proofs.NestedComplete.{statements_list, statements_of_list, NoStatement, no_statement, sequence_it, statement_it}

statements_it : (ss : s.Statements) (ts rest : List Lexeme) → AreStatements ss ts rest → NoStatement rest → Answers (any_statements ts) (statements_list ss) rest
unfolding any_statements
statements_it ss ts rest h ends = sequence_it (statement 64) (statement_it 64) ss ts rest h ends

-- LOCALS

object_it : (names : List Identifier) (c : Bool) (mark : Name) (r : Option e.RangeConstraint) (v : Option e.Expression) (ts rest : List Lexeme) → IsLocal (t.an_object names c mark r v) ts rest → Answers (local_object ts) (t.an_object names c mark r v) rest
unfolding local_object same_kind
object_it names c mark r v ts rest h =
    let n = h.2.2.2 in
    let tail = n.2 in
    let variable = not_both k.Identifier k.Constant h.2.2.0 n.1.0 (n.1.1.0, n.1.1.1, n.1.1.2) refl in
    let goes = after_range v tail.0 tail.2.0 rest tail.2.1 tail.2.2 in
    answers_then (listed k.Comma identifier ts) _ names h.0 _ _ (identifiers_it names ts h.0 h.1 (not_both k.Colon k.Comma h.0 h.2.0 h.2.1 refl))
    (word_then k.Colon h.0 h.2.0 _ _ _ h.2.1
    (rw (flag_seen k.Constant c h.2.0 h.2.2.0 h.2.2.1 variable, flag_after k.Constant c h.2.0 h.2.2.0 h.2.2.1 variable)
    (answers_then (name h.2.2.0) _ mark n.0 _ _ (name_it mark h.2.2.0 n.0 n.1 (after_mark r v n.0 tail.0 tail.2.0 rest tail.1 tail.2.1 tail.2.2))
    (answers_then (optional (sees k.Range) range n.0) _ r tail.0 _ _ (maybe_range_it r n.0 tail.0 tail.1 goes.0 goes.1)
    (answers_then (optional_after k.Becomes any_expression tail.0) _ v tail.2.0 _ _ (initial_it v tail.0 tail.2.0 tail.2.1 (not_both k.Semicolon k.Becomes tail.2.0 rest tail.2.2 refl) (ends_at 6 k.Semicolon tail.2.0 rest tail.2.2 (omega arith)))
    (word_then k.Semicolon tail.2.0 rest _ _ _ tail.2.2 refl))))))

local_it : Complete IsLocal a_local Anything
unfolding a_local
local_it (t.an_object names c mark r v) ts rest h _ =
    let first = first_identifier names ts h.0 h.1 in
    by_kind_it local_by k.Identifier ts first.0 _ _ first.1 (object_it names c mark r v ts rest h)
local_it (t.local_pragma p) ts rest h _ =
    by_kind_it local_by k.Pragma ts h.0 _ _ (is_of k.Pragma p.at ts h.0 h.1) (answers_then (a_pragma ts) _ p rest _ _ (pragma_it p ts rest h tt) refl)
local_it (t.local_protected_unit x) ts rest h _ =
    by_kind_it local_by k.Protected ts h.0 _ _ (is_of k.Protected x.at ts h.0 h.1) (answers_then (protected_unit ts) _ x rest _ _ (protected_it x ts rest h tt) refl)
local_it (t.local_task x) ts rest h _ =
    by_kind_it local_by k.Task ts h.0 _ _ (is_of k.Task x.at ts h.0 h.1) (answers_then (task ts) _ x rest _ _ (task_it x ts rest h tt) refl)

local_starts : (x : t.Local) (ts rest : List Lexeme) → IsLocal x ts rest → starts_by begins_local ts ≡ true
local_starts (t.an_object names c mark r v) ts rest h = let first = first_identifier names ts h.0 h.1 in starts_is begins_local k.Identifier ts first.0 first.1
local_starts (t.local_pragma p) ts rest h = starts_is begins_local k.Pragma ts h.0 (is_of k.Pragma p.at ts h.0 h.1)
local_starts (t.local_protected_unit x) ts rest h = starts_is begins_local k.Protected ts h.0 (is_of k.Protected x.at ts h.0 h.1)
local_starts (t.local_task x) ts rest h = starts_is begins_local k.Task ts h.0 (is_of k.Task x.at ts h.0 h.1)

local_shorter : (x : t.Local) (old new : List Lexeme) → IsLocal x old new → Shorter old new
local_shorter (t.an_object names c mark r v) old new h =
    let n = h.2.2.2 in
    let tail = n.2 in
    omega (arith, identifiers_shorter names old h.0 h.1, is_shorter _ h.0 h.2.0 h.2.1, flag_shorter k.Constant c h.2.0 h.2.2.0 h.2.2.1, name_shorter mark h.2.2.0 n.0 n.1, maybe_range_shorter r n.0 tail.0 tail.1, initial_shorter v tail.0 tail.2.0 tail.2.1, is_shorter _ tail.2.0 new tail.2.2)
local_shorter (t.local_pragma p) old new h = pragma_shorter p old new h
local_shorter (t.local_protected_unit x) old new h = protected_shorter x old new h
local_shorter (t.local_task x) old new h = task_shorter x old new h

-- HANDLERS

exception_it : Complete IsExceptionChoice exception_choice (Unseen k.Dot)
unfolding exception_choice same_kind
exception_it (t.exception_named n) ts rest h ends =
    if_false (sees k.Others ts) _ _ _ _ (not_both k.Identifier k.Others ts h.0 (h.1.0, h.1.1, h.1.2) refl) (answers_then (name ts) _ n rest _ _ (name_it n ts rest h ends) refl)
exception_it (t.other_exceptions at) ts rest h ends =
    if_true (sees k.Others ts) _ _ _ _ (sees_it k.Others ts rest (h.0, h.1, h.2)) (at_then k.Others at ts rest _ _ _ h refl)

exception_shorter : (x : t.ExceptionChoice) (old new : List Lexeme) → IsExceptionChoice x old new → Shorter old new
exception_shorter (t.exception_named n) old new h = name_shorter n old new h
exception_shorter (t.other_exceptions at) old new h = at_shorter _ _ old new h

handler_it : Complete IsHandler handler NoStatement
unfolding handler same_kind
handler_it x ts rest h ends =
    let arrow = h.2.2.1 in
    at_then k.When x.at ts h.0 _ _ _ h.1
    (answers_then (listed k.Bar exception_choice h.0) _ x.choices h.2.0 _ _
    (listed_it IsExceptionChoice exception_choice (Unseen k.Dot) exception_it exception_shorter k.Bar (λ us vs g. not_both k.Bar k.Dot us vs g refl) x.choices h.0 h.2.0 h.2.1 (not_both k.Arrow k.Bar h.2.0 h.2.2.0 arrow refl) (not_both k.Arrow k.Dot h.2.0 h.2.2.0 arrow refl))
    (word_then k.Arrow h.2.0 h.2.2.0 _ _ _ arrow
    (answers_then (any_statements h.2.2.0) _ (statements_list x.statements) rest _ _ (statements_it x.statements h.2.2.0 rest h.2.2.2 ends)
    (rw (statements_of_list x.statements) refl))))

handler_shorter : (x : t.Handler) (old new : List Lexeme) → IsHandler x old new → Shorter old new
handler_shorter x old new h = omega (arith, at_shorter _ _ old h.0 h.1, listed_shorter IsExceptionChoice exception_shorter k.Bar x.choices h.0 h.2.0 h.2.1, is_shorter _ h.2.0 h.2.2.0 h.2.2.1, sequence_shorter x.statements h.2.2.0 new h.2.2.2)

handlers_it : (xs : List t.Handler) (ts rest a : List Lexeme) → AreHandlers xs ts rest → Is k.End rest a → Answers (handlers ts) xs rest
unfolding handlers same_kind
handlers_it [] ts rest a h g = uneaten_then k.Exception ts _ _ _ _ (ap (λ us. sees k.Exception us) h ∙ not_both k.End k.Exception rest a g refl) (ap (λ us. ([], us)) h)
handlers_it (x ∷ xs) ts rest a h g =
    eaten_then k.Exception ts h.0 _ _ _ _ h.1
    (at_least_one_it IsHandler handler NoStatement handler_it handler_shorter (sees k.When) (λ y us vs f. sees_it k.When us f.0 (is_of k.When y.at us f.0 f.1)) (λ y us vs f. no_statement k.When us f.0 (is_of k.When y.at us f.0 f.1) refl) (x ∷ xs) h.0 rest h.2 (not_both k.End k.When rest a g refl) (no_statement k.End rest a g refl))

handlers_shorter : (xs : List t.Handler) (old new : List Lexeme) → AreHandlers xs old new → NotLonger old new
handlers_shorter [] old new h = nothing_shorter old new h
handlers_shorter (x ∷ xs) old new h = omega (arith, is_shorter _ old h.0 h.1, handler_shorter x h.0 h.2.0 h.2.1, each_shorter IsHandler handler_shorter xs h.2.0 new h.2.2)

before_handlers : (xs : List t.Handler) (ts rest a : List Lexeme) → AreHandlers xs ts rest → Is k.End rest a → NoStatement ts
before_handlers [] ts rest a h g = ap (λ us. sees_statement us) h ∙ no_statement k.End rest a g refl
before_handlers (x ∷ xs) ts rest a h g = no_statement k.Exception ts h.0 h.1 refl

-- BLOCKS AND BODIES

block_it : Complete IsBlock block Anything
unfolding block
block_it b ts rest h _ =
    let x = h.2.2 in
    let y = x.2 in
    answers_then (many (starts_by begins_local) a_local ts) _ b.locals h.0 _ _
    (many_it IsLocal a_local Anything local_it local_shorter (starts_by begins_local) local_starts (λ _ _ _ _. tt) b.locals ts h.0 h.1 (starts_is begins_local k.Begin h.0 h.2.0 h.2.1) tt)
    (word_then k.Begin h.0 h.2.0 _ _ _ h.2.1
    (answers_then (any_statements h.2.0) _ (statements_list b.statements) x.0 _ _ (statements_it b.statements h.2.0 x.0 x.1 (before_handlers b.handlers x.0 y.0 y.2.0 y.1 y.2.1))
    (answers_then (handlers x.0) _ b.handlers y.0 _ _ (handlers_it b.handlers x.0 y.0 y.2.0 y.1 y.2.1)
    (answers_then (end_name y.0) _ b.end_name rest _ _ (end_it b.end_name y.0 rest y.2) (rw (statements_of_list b.statements) refl)))))

block_shorter : (b : t.Block) (old new : List Lexeme) → IsBlock b old new → Shorter old new
block_shorter b old new h =
    let x = h.2.2 in
    let y = x.2 in
    omega (arith, each_shorter IsLocal local_shorter b.locals old h.0 h.1, is_shorter _ h.0 h.2.0 h.2.1, sequence_shorter b.statements h.2.0 x.0 x.1, handlers_shorter b.handlers x.0 y.0 y.1, end_shorter b.end_name y.0 new y.2)

operation_body_it : Complete IsOperationBody operation_body Anything
unfolding operation_body function_body procedure_body entry_body same_kind
operation_body_it (t.function_body at n ps mark b) ts rest h _ =
    let x = h.2.2.2 in
    let y = x.2 in
    let z = y.2 in
    by_kind_it operation_body_by k.Function ts h.0 _ _ (is_of k.Function at ts h.0 h.1)
    (at_then k.Function at ts h.0 _ _ _ h.1
    (answers_then (identifier h.0) _ n h.2.0 _ _ (identifier_it n h.0 h.2.0 h.2.1)
    (answers_then (parameters h.2.0) _ ps h.2.2.0 _ _ (parameters_it ps h.2.0 h.2.2.0 h.2.2.1 (not_both k.Return k.LeftParenthesis h.2.2.0 x.0 x.1 refl))
    (word_then k.Return h.2.2.0 x.0 _ _ _ x.1
    (answers_then (name x.0) _ mark y.0 _ _ (name_it mark x.0 y.0 y.1 (not_both k.Is k.Dot y.0 z.0 z.1 refl))
    (word_then k.Is y.0 z.0 _ _ _ z.1
    (answers_then (block z.0) _ b rest _ _ (block_it b z.0 rest z.2 tt) refl)))))))
operation_body_it (t.procedure_body at n ps b) ts rest h _ =
    let x = h.2.2.2 in
    by_kind_it operation_body_by k.Procedure ts h.0 _ _ (is_of k.Procedure at ts h.0 h.1)
    (at_then k.Procedure at ts h.0 _ _ _ h.1
    (answers_then (identifier h.0) _ n h.2.0 _ _ (identifier_it n h.0 h.2.0 h.2.1)
    (answers_then (parameters h.2.0) _ ps h.2.2.0 _ _ (parameters_it ps h.2.0 h.2.2.0 h.2.2.1 (not_both k.Is k.LeftParenthesis h.2.2.0 x.0 x.1 refl))
    (word_then k.Is h.2.2.0 x.0 _ _ _ x.1
    (answers_then (block x.0) _ b rest _ _ (block_it b x.0 rest x.2 tt) refl)))))
operation_body_it (t.entry_body at n ps c b) ts rest h _ =
    let x = h.2.2.2 in
    let y = x.2 in
    let z = y.2 in
    by_kind_it operation_body_by k.Entry ts h.0 _ _ (is_of k.Entry at ts h.0 h.1)
    (at_then k.Entry at ts h.0 _ _ _ h.1
    (answers_then (identifier h.0) _ n h.2.0 _ _ (identifier_it n h.0 h.2.0 h.2.1)
    (answers_then (parameters h.2.0) _ ps h.2.2.0 _ _ (parameters_it ps h.2.0 h.2.2.0 h.2.2.1 (not_both k.When k.LeftParenthesis h.2.2.0 x.0 x.1 refl))
    (word_then k.When h.2.2.0 x.0 _ _ _ x.1
    (answers_then (any_expression x.0) _ c y.0 _ _ (any_it c x.0 y.0 y.1 (ends_at 6 k.Is y.0 z.0 z.1 (omega arith)))
    (word_then k.Is y.0 z.0 _ _ _ z.1
    (answers_then (block z.0) _ b rest _ _ (block_it b z.0 rest z.2 tt) refl)))))))

operation_body_starts : (x : t.OperationBody) (ts rest : List Lexeme) → IsOperationBody x ts rest → starts_by begins_operation_body ts ≡ true
operation_body_starts (t.function_body at n ps mark b) ts rest h = starts_is begins_operation_body k.Function ts h.0 (is_of k.Function at ts h.0 h.1)
operation_body_starts (t.procedure_body at n ps b) ts rest h = starts_is begins_operation_body k.Procedure ts h.0 (is_of k.Procedure at ts h.0 h.1)
operation_body_starts (t.entry_body at n ps c b) ts rest h = starts_is begins_operation_body k.Entry ts h.0 (is_of k.Entry at ts h.0 h.1)

operation_body_shorter : (x : t.OperationBody) (old new : List Lexeme) → IsOperationBody x old new → Shorter old new
operation_body_shorter (t.function_body at n ps mark b) old new h =
    let x = h.2.2.2 in
    let y = x.2 in
    let z = y.2 in
    omega (arith, at_shorter _ _ old h.0 h.1, identifier_shorter n h.0 h.2.0 h.2.1, parameters_shorter ps h.2.0 h.2.2.0 h.2.2.1, is_shorter _ h.2.2.0 x.0 x.1, name_shorter mark x.0 y.0 y.1, is_shorter _ y.0 z.0 z.1, block_shorter b z.0 new z.2)
operation_body_shorter (t.procedure_body at n ps b) old new h =
    let x = h.2.2.2 in
    omega (arith, at_shorter _ _ old h.0 h.1, identifier_shorter n h.0 h.2.0 h.2.1, parameters_shorter ps h.2.0 h.2.2.0 h.2.2.1, is_shorter _ h.2.2.0 x.0 x.1, block_shorter b x.0 new x.2)
operation_body_shorter (t.entry_body at n ps c b) old new h =
    let x = h.2.2.2 in
    let y = x.2 in
    let z = y.2 in
    omega (arith, at_shorter _ _ old h.0 h.1, identifier_shorter n h.0 h.2.0 h.2.1, parameters_shorter ps h.2.0 h.2.2.0 h.2.2.1, is_shorter _ h.2.2.0 x.0 x.1, expression_shorter c x.0 y.0 y.1, is_shorter _ y.0 z.0 z.1, block_shorter b z.0 new z.2)

-- word "body" id "is" {x} "end" [id] ";"
module _ {A B : Type 0} (word : Kind) (begins : Kind → Bool) (is : A → Phrase) (item : Parser A) (item_it : Complete is item Anything) (shorter : (a : A) (old new : List Lexeme) → is a old new → Shorter old new) (starts : (a : A) (ts rest : List Lexeme) → is a ts rest → starts_by begins ts ≡ true) (ends : begins k.End ≡ false) (make : (at : ℕ) → Identifier → List A → Option Identifier → B) where
  body_of_it : (at : ℕ) (n : Identifier) (xs : List A) (end : Option Identifier) (ts rest : List Lexeme) → (IsAt word at ⨾ Is k.Body ⨾ IsIdentifier n ⨾ Is k.Is ⨾ Each is xs ⨾ IsEnd end) ts rest → Answers (body_of word begins item make ts) (make at n xs end) rest
  unfolding body_of
  body_of_it at n xs end ts rest h =
      let y = h.2.2.2 in
      let z = y.2 in
      at_then word at ts h.0 _ _ _ h.1
      (word_then k.Body h.0 h.2.0 _ _ _ h.2.1
      (answers_then (identifier h.2.0) _ n h.2.2.0 _ _ (identifier_it n h.2.0 h.2.2.0 h.2.2.1)
      (word_then k.Is h.2.2.0 y.0 _ _ _ y.1
      (answers_then (many (starts_by begins) item y.0) _ xs z.0 _ _
      (many_it is item Anything item_it shorter (starts_by begins) starts (λ _ _ _ _. tt) xs y.0 z.0 z.1 (starts_is begins k.End z.0 z.2.0 z.2.1 ∙ ends) tt)
      (answers_then (end_name z.0) _ end rest _ _ (end_it end z.0 rest z.2) refl)))))

protected_body_it : Complete IsProtectedBody protected_body Anything
unfolding protected_body
protected_body_it b ts rest h _ =
    body_of_it k.Protected begins_operation_body IsOperationBody operation_body operation_body_it operation_body_shorter operation_body_starts refl _ b.at b.name b.operations b.end_name ts rest h

protected_body_shorter : (b : t.ProtectedBody) (old new : List Lexeme) → IsProtectedBody b old new → Shorter old new
protected_body_shorter b old new h =
    let x = h.2.2.2 in
    omega (arith, at_shorter _ _ old h.0 h.1, is_shorter _ h.0 h.2.0 h.2.1, identifier_shorter b.name h.2.0 h.2.2.0 h.2.2.1, is_shorter _ h.2.2.0 x.0 x.1, each_shorter IsOperationBody operation_body_shorter b.operations x.0 x.2.0 x.2.1, end_shorter b.end_name x.2.0 new x.2.2)

task_body_it : Complete IsTaskBody task_body Anything
unfolding task_body
task_body_it b ts rest h _ =
    let x = h.2.2.2 in
    at_then k.Task b.at ts h.0 _ _ _ h.1
    (word_then k.Body h.0 h.2.0 _ _ _ h.2.1
    (answers_then (identifier h.2.0) _ b.name h.2.2.0 _ _ (identifier_it b.name h.2.0 h.2.2.0 h.2.2.1)
    (word_then k.Is h.2.2.0 x.0 _ _ _ x.1
    (answers_then (block x.0) _ b.block rest _ _ (block_it b.block x.0 rest x.2 tt) refl))))

task_body_shorter : (b : t.TaskBody) (old new : List Lexeme) → IsTaskBody b old new → Shorter old new
task_body_shorter b old new h =
    let x = h.2.2.2 in
    omega (arith, at_shorter _ _ old h.0 h.1, is_shorter _ h.0 h.2.0 h.2.1, identifier_shorter b.name h.2.0 h.2.2.0 h.2.2.1, is_shorter _ h.2.2.0 x.0 x.1, block_shorter b.block x.0 new x.2)

-- UNITS

first_name : (xs : List Name) (ts rest : List Lexeme) → AreNames xs ts rest → (a : List Lexeme) × Is k.Identifier ts a
first_name [] ts rest h = absurd h
first_name (x ∷ xs) ts rest h = (h.1.0, (h.1.1.0, h.1.1.1, h.1.1.2))

context_it : Complete IsContextItem context_item Anything
unfolding context_item with_clause use_clause same_kind
context_it (u.context_pragma p) ts rest h _ =
    by_kind_it context_item_by k.Pragma ts h.0 _ _ (is_of k.Pragma p.at ts h.0 h.1) (answers_then (a_pragma ts) _ p rest _ _ (pragma_it p ts rest h tt) refl)
context_it (u.with_clause at names) ts rest h _ =
    by_kind_it context_item_by k.With ts h.0 _ _ (is_of k.With at ts h.0 h.1)
    (at_then k.With at ts h.0 _ _ _ h.1
    (answers_then (listed k.Comma name h.0) _ names h.2.0 _ _ (names_it names h.0 h.2.0 rest h.2.1 h.2.2)
    (word_then k.Semicolon h.2.0 rest _ _ _ h.2.2 refl)))
context_it (u.use_clause at is_type names) ts rest h _ =
    let x = h.2.2 in
    let first = first_name names h.2.0 x.0 x.1 in
    let plain = not_both k.Identifier k.Type h.2.0 first.0 first.1 refl in
    by_kind_it context_item_by k.Use ts h.0 _ _ (is_of k.Use at ts h.0 h.1)
    (at_then k.Use at ts h.0 _ _ _ h.1
    (rw (flag_seen k.Type is_type h.0 h.2.0 h.2.1 plain, flag_after k.Type is_type h.0 h.2.0 h.2.1 plain)
    (answers_then (listed k.Comma name h.2.0) _ names x.0 _ _ (names_it names h.2.0 x.0 rest x.1 x.2)
    (word_then k.Semicolon x.0 rest _ _ _ x.2 refl))))

context_starts : (x : u.ContextItem) (ts rest : List Lexeme) → IsContextItem x ts rest → starts_by begins_context_item ts ≡ true
context_starts (u.context_pragma p) ts rest h = starts_is begins_context_item k.Pragma ts h.0 (is_of k.Pragma p.at ts h.0 h.1)
context_starts (u.with_clause at names) ts rest h = starts_is begins_context_item k.With ts h.0 (is_of k.With at ts h.0 h.1)
context_starts (u.use_clause at is_type names) ts rest h = starts_is begins_context_item k.Use ts h.0 (is_of k.Use at ts h.0 h.1)

context_shorter : (x : u.ContextItem) (old new : List Lexeme) → IsContextItem x old new → Shorter old new
context_shorter (u.context_pragma p) old new h = pragma_shorter p old new h
context_shorter (u.with_clause at names) old new h = omega (arith, at_shorter _ _ old h.0 h.1, listed_shorter IsName name_shorter k.Comma names h.0 h.2.0 h.2.1, is_shorter _ h.2.0 new h.2.2)
context_shorter (u.use_clause at is_type names) old new h = omega (arith, at_shorter _ _ old h.0 h.1, flag_shorter k.Type is_type h.0 h.2.0 h.2.1, listed_shorter IsName name_shorter k.Comma names h.2.0 h.2.2.0 h.2.2.1, is_shorter _ h.2.2.0 new h.2.2.2)

specification_it : Complete IsSpecification specification Anything
unfolding specification
specification_it x ts rest h _ =
    let y = h.2.2.2 in
    at_then k.Package x.at ts h.0 _ _ _ h.1
    (answers_then (identifier h.0) _ x.name h.2.0 _ _ (identifier_it x.name h.0 h.2.0 h.2.1)
    (word_then k.Is h.2.0 h.2.2.0 _ _ _ h.2.2.1
    (answers_then (many (starts_by begins_declaration) declaration h.2.2.0) _ x.declarations y.0 _ _
    (many_it IsDeclaration declaration Anything declaration_it declaration_shorter (starts_by begins_declaration) declaration_starts (λ _ _ _ _. tt) x.declarations h.2.2.0 y.0 y.1 (starts_is begins_declaration k.End y.0 y.2.0 y.2.1) tt)
    (answers_then (end_name y.0) _ x.end_name rest _ _ (end_it x.end_name y.0 rest y.2) refl))))

-- "body" comes second in no declaration
body_not_second : (what : Kind) (ts a b : List Lexeme) (second : Kind) → Is what ts a → Is second a b → same_kind second k.Body ≡ false → Unseen k.Body (next ts)
body_not_second what ts a b second h g apart = ap (λ us. sees k.Body us) (next_it what ts a h) ∙ not_both second k.Body a b g apart

type_second : (b : Bool) (ts mid a : List Lexeme) → Flag k.Type b ts mid → Is k.Identifier mid a → Unseen k.Body ts
unfolding same_kind
type_second true ts mid a h g = not_both k.Type k.Body ts mid h refl
type_second false ts mid a h g = ap (λ us. sees k.Body us) h ∙ not_both k.Identifier k.Body mid a g refl

protected_second : (x : d.ProtectedUnit) (ts rest : List Lexeme) → IsProtectedUnit x ts rest → Unseen k.Body (next ts)
protected_second x ts rest h =
    let i = h.2.2.1 in
    ap (λ us. sees k.Body us) (next_it k.Protected ts h.0 (is_of k.Protected x.at ts h.0 h.1)) ∙ type_second x.is_type h.0 h.2.0 h.2.2.0 h.2.1 (i.0, i.1, i.2)

not_bodies : (ts rest : List Lexeme) (x : u.BodyItem) → Unseen k.Protected ts → Unseen k.Task ts → Answers {A = u.BodyItem} (and_then (declaration ts) (λ y. pure (u.body_declaration y))) x rest → Answers (body_item ts) x rest
unfolding body_item
not_bodies ts rest x a b g = by_test (sees k.Body (next ts)) refl
  where
    by_test : (v : Bool) → sees k.Body (next ts) ≡ v → Answers (body_item ts) x rest
    by_test true e = rw e (rw a (rw b g))
    by_test false e = rw e g

read_declaration : (x : d.Declaration) (ts rest : List Lexeme) → IsDeclaration x ts rest → Answers {A = u.BodyItem} (and_then (declaration ts) (λ y. pure (u.body_declaration y))) (u.body_declaration x) rest
read_declaration x ts rest h = answers_then (declaration ts) _ x rest _ _ (declaration_it x ts rest h tt) refl

body_item_it : Complete IsBodyItem body_item Anything
unfolding body_item same_kind
body_item_it (u.body_declaration (d.package_pragma p)) ts rest h _ =
    let w = is_of k.Pragma p.at ts h.0 h.1 in
    not_bodies ts rest _ (not_both k.Pragma k.Protected ts h.0 w refl) (not_both k.Pragma k.Task ts h.0 w refl) (read_declaration (d.package_pragma p) ts rest h)
body_item_it (u.body_declaration (d.a_subtype at n mark r)) ts rest h _ =
    let w = is_of k.Subtype at ts h.0 h.1 in
    not_bodies ts rest _ (not_both k.Subtype k.Protected ts h.0 w refl) (not_both k.Subtype k.Task ts h.0 w refl) (read_declaration (d.a_subtype at n mark r) ts rest h)
body_item_it (u.body_declaration (d.a_protected_unit x)) ts rest h _ =
    if_false (sees k.Body (next ts)) _ _ _ _ (protected_second x ts rest h) (read_declaration (d.a_protected_unit x) ts rest h)
body_item_it (u.body_declaration (d.a_task x)) ts rest h _ =
    let i = h.2.1 in
    if_false (sees k.Body (next ts)) _ _ _ _ (body_not_second k.Task ts h.0 h.2.0 k.Identifier (is_of k.Task x.at ts h.0 h.1) (i.0, i.1, i.2) refl) (read_declaration (d.a_task x) ts rest h)
body_item_it (u.body_declaration (d.a_variable names mark)) ts rest h _ =
    let first = first_identifier names ts h.0 h.1 in
    not_bodies ts rest _ (not_both k.Identifier k.Protected ts first.0 first.1 refl) (not_both k.Identifier k.Task ts first.0 first.1 refl) (read_declaration (d.a_variable names mark) ts rest h)
body_item_it (u.body_declaration (d.a_constant names mark v)) ts rest h _ =
    let first = first_identifier names ts h.0 h.1 in
    not_bodies ts rest _ (not_both k.Identifier k.Protected ts first.0 first.1 refl) (not_both k.Identifier k.Task ts first.0 first.1 refl) (read_declaration (d.a_constant names mark v) ts rest h)
body_item_it (u.body_protected b) ts rest h _ =
    let w = is_of k.Protected b.at ts h.0 h.1 in
    if_true (sees k.Body (next ts)) _ _ _ _ (ap (λ us. sees k.Body us) (next_it k.Protected ts h.0 w) ∙ sees_it k.Body h.0 h.2.0 h.2.1)
    (if_true (sees k.Protected ts) _ _ _ _ (sees_it k.Protected ts h.0 w) (answers_then (protected_body ts) _ b rest _ _ (protected_body_it b ts rest h tt) refl))
body_item_it (u.body_task b) ts rest h _ =
    let w = is_of k.Task b.at ts h.0 h.1 in
    if_true (sees k.Body (next ts)) _ _ _ _ (ap (λ us. sees k.Body us) (next_it k.Task ts h.0 w) ∙ sees_it k.Body h.0 h.2.0 h.2.1)
    (if_false (sees k.Protected ts) _ _ _ _ (not_both k.Task k.Protected ts h.0 w refl)
    (if_true (sees k.Task ts) _ _ _ _ (sees_it k.Task ts h.0 w) (answers_then (task_body ts) _ b rest _ _ (task_body_it b ts rest h tt) refl)))

body_item_starts : (x : u.BodyItem) (ts rest : List Lexeme) → IsBodyItem x ts rest → starts_by begins_declaration ts ≡ true
body_item_starts (u.body_declaration y) ts rest h = declaration_starts y ts rest h
body_item_starts (u.body_protected b) ts rest h = starts_is begins_declaration k.Protected ts h.0 (is_of k.Protected b.at ts h.0 h.1)
body_item_starts (u.body_task b) ts rest h = starts_is begins_declaration k.Task ts h.0 (is_of k.Task b.at ts h.0 h.1)

body_item_shorter : (x : u.BodyItem) (old new : List Lexeme) → IsBodyItem x old new → Shorter old new
body_item_shorter (u.body_declaration y) old new h = declaration_shorter y old new h
body_item_shorter (u.body_protected b) old new h = protected_body_shorter b old new h
body_item_shorter (u.body_task b) old new h = task_body_shorter b old new h

body_it : Complete IsBody body Anything
unfolding body
body_it x ts rest h _ =
    body_of_it k.Package begins_declaration IsBodyItem body_item body_item_it body_item_shorter body_item_starts refl _ x.at x.name x.items x.end_name ts rest h

pub unit_it : (x : u.UnitTree) (ts rest : List Lexeme) → IsUnit x ts rest → Answers (unit ts) x rest
unfolding unit
unit_it x ts rest h =
    answers_then (many (starts_by begins_context_item) context_item ts) _ x.context h.0 _ _
    (many_it IsContextItem context_item Anything context_it context_shorter (starts_by begins_context_item) context_starts (λ _ _ _ _. tt) x.context ts h.0 h.1 (starts_is begins_context_item k.Package h.0 h.2.1.0 (is_of k.Package x.specification.at h.0 h.2.1.0 h.2.1.1)) tt)
    (answers_then (specification h.0) _ x.specification h.2.0 _ _ (specification_it x.specification h.0 h.2.0 h.2.1 tt)
    (answers_then (body h.2.0) _ x.body rest _ _ (body_it x.body h.2.0 rest h.2.2 tt) refl))
