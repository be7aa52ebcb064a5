-- What is read as a body or a unit text is one of the grammar.
use Rattle.std.proofs.Common.{◌≡◌, inl, inr, ℕ, Bool, List, [], ◌∷◌, Option, Ok, sym}
use Rattle.rv_lex.specs.declared.kind.Kind.{Kind}
use Rattle.rv_lex.specs.declared.kind.Kind.TheVariants as k
use Rattle.rv_lex.specs.Lexes.{Lexeme}
use Rattle.rv_tree.specs.Phrases.{Phrase, ◌⨾◌, Is, IsAt, Each, AtLeastOne}
use Rattle.rv_tree.specs.Names.{Identifier}
use Rattle.rv_tree.specs.NameGrammar.{IsIdentifier, IsName, IsEnd}
use Rattle.rv_tree.specs.ExpressionGrammar.{IsExpression, IsRange}
use Rattle.rv_tree.specs.DeclarationGrammar.{IsDeclaration}
use Rattle.rv_tree.specs.Statements as s
use Rattle.rv_tree.specs.StatementGrammar.{AreStatements}
use Rattle.rv_tree.specs.Bodies as t
use Rattle.rv_tree.specs.BodyGrammar.{IsLocal, IsExceptionChoice, IsHandler, AreHandlers, IsBlock, IsOperationBody, IsProtectedBody, IsTaskBody}
use Rattle.rv_tree.specs.Units as u
use Rattle.rv_tree.specs.UnitGrammar.{IsContextItem, IsSpecification, IsBodyItem, IsBody, IsUnit}
use Rattle.rv_grammar.specs.Reading.{Parser, and_then, pure, sees, next, after, starts_by, expect, many, listed, optional, optional_after}
use Rattle.rv_grammar.specs.NameRules.{identifier, name, end_name}
use Rattle.rv_grammar.specs.DeclarationRules.{any_expression, range, a_pragma, parameters, protected_unit, task, begins_declaration, declaration}
use Rattle.rv_grammar.specs.StatementRules.{statement}
use Rattle.rv_grammar.specs.BodyRules.{any_statements, local_object, begins_local, local_by, a_local, exception_choice, handler, handlers, block, function_body, procedure_body, entry_body, begins_operation_body, operation_body_by, operation_body, body_of, protected_body, task_body}
use Rattle.rv_grammar.specs.UnitRules.{with_clause, use_clause, begins_context_item, context_item_by, context_item, specification, body_item, body, unit}
use Rattle.rv_grammar.proofs.Steps.{Sound, bind_ok, given, branch_ok, chosen, eaten, not_eaten, expected, expected_at, flag_sound, identifier_sound, many_sound, at_least_one_sound, listed_sound, optional_sound, optional_after_sound}
use Rattle.rv_grammar.proofs.ExpressionSound.{name_sound}
use Rattle.rv_grammar.proofs.DeclarationSound.{any_expression_sound, identifiers_sound, end_name_sound, range_sound, pragma_sound, parameters_sound, kind_sound, protected_unit_sound, task_sound, declaration_sound}
use Rattle.rv_grammar.proofs.StatementSound.{statements_sound, statement_sound}

sequence_sound : Sound (λ ss. AreStatements (s.statements_of ss)) any_statements
unfolding any_statements
sequence_sound = statements_sound (statement 64) (statement_sound 64)

object_sound : Sound IsLocal local_object
unfolding local_object
object_sound ts r h =
    let a = bind_ok (listed k.Comma identifier ts) _ r h in
    let b = bind_ok (expect k.Colon a.0.1) _ r a.2 in
    let c = bind_ok (name (after k.Constant b.0.1)) _ r b.2 in
    let d = bind_ok (optional (sees k.Range) range c.0.1) _ r c.2 in
    let e = bind_ok (optional_after k.Becomes any_expression d.0.1) _ r d.2 in
    let f = bind_ok (expect k.Semicolon e.0.1) _ r e.2 in
    given IsLocal ts _ r f.2 (a.0.1, identifiers_sound ts a.0 a.1, (b.0.1, expected k.Colon _ b.0 b.1, (after k.Constant b.0.1, flag_sound k.Constant b.0.1, (c.0.1, name_sound _ c.0 c.1, (d.0.1, optional_sound IsRange range range_sound (sees k.Range) _ d.0 d.1, (e.0.1, optional_after_sound IsExpression any_expression any_expression_sound k.Becomes _ e.0 e.1, expected k.Semicolon _ f.0 f.1))))))

local_by_sound : (w : Kind) → Sound IsLocal (local_by w)
local_by_sound k.Identifier ts r h = object_sound ts r h
local_by_sound k.Pragma ts r h = let a = bind_ok (a_pragma ts) _ r h in given IsLocal ts _ r a.2 (pragma_sound ts a.0 a.1)
local_by_sound k.Protected ts r h = let a = bind_ok (protected_unit ts) _ r h in given IsLocal ts _ r a.2 (protected_unit_sound ts a.0 a.1)
local_by_sound k.Task ts r h = let a = bind_ok (task ts) _ r h in given IsLocal ts _ r a.2 (task_sound ts a.0 a.1)
local_by_sound _ ts r h = absurd cc

local_sound : Sound IsLocal a_local
unfolding a_local
local_sound = kind_sound IsLocal local_by local_by_sound

exception_choice_sound : Sound IsExceptionChoice exception_choice
unfolding exception_choice
exception_choice_sound ts r h = elim (chosen (sees k.Others ts) _ _ _ h) [
  | inl g ↦ let a = bind_ok (expect k.Others ts) _ r g.1 in given IsExceptionChoice ts _ r a.2 (expected_at k.Others ts a.0 a.1)
  | inr g ↦ let a = bind_ok (name ts) _ r g.1 in given IsExceptionChoice ts _ r a.2 (name_sound ts a.0 a.1)
]

handler_sound : Sound IsHandler handler
unfolding handler
handler_sound ts r h =
    let a = bind_ok (expect k.When ts) _ r h in
    let b = bind_ok (listed k.Bar exception_choice a.0.1) _ r a.2 in
    let c = bind_ok (expect k.Arrow b.0.1) _ r b.2 in
    let d = bind_ok (any_statements c.0.1) _ r c.2 in
    given IsHandler ts _ r d.2 (a.0.1, expected_at k.When ts a.0 a.1, (b.0.1, listed_sound IsExceptionChoice exception_choice exception_choice_sound k.Bar _ b.0 b.1, (c.0.1, expected k.Arrow _ c.0 c.1, sequence_sound _ d.0 d.1)))

handlers_list : (xs : List t.Handler) (a b c : List Lexeme) → Is k.Exception a b → AtLeastOne IsHandler xs b c → AreHandlers xs a c
handlers_list [] a b c w h = absurd h
handlers_list (x ∷ xs) a b c w h = (b, w, h)

handlers_sound : Sound AreHandlers handlers
unfolding handlers
handlers_sound ts r h = elim (branch_ok (sees k.Exception ts) _ _ _ r h) [
  | inl g ↦ handlers_list r.0 ts (after k.Exception ts) r.1 (eaten k.Exception ts g.0) (at_least_one_sound IsHandler handler handler_sound (sees k.When) _ r g.1)
  | inr g ↦ given AreHandlers ts _ r g.1 (sym (not_eaten k.Exception ts g.0))
]

block_sound : Sound IsBlock block
unfolding block
block_sound ts r h =
    let a = bind_ok (many (starts_by begins_local) a_local ts) _ r h in
    let b = bind_ok (expect k.Begin a.0.1) _ r a.2 in
    let c = bind_ok (any_statements b.0.1) _ r b.2 in
    let d = bind_ok (handlers c.0.1) _ r c.2 in
    let e = bind_ok (end_name d.0.1) _ r d.2 in
    given IsBlock ts _ r e.2 (a.0.1, many_sound IsLocal a_local local_sound (starts_by begins_local) ts a.0 a.1, (b.0.1, expected k.Begin _ b.0 b.1, (c.0.1, sequence_sound _ c.0 c.1, (d.0.1, handlers_sound _ d.0 d.1, end_name_sound _ e.0 e.1))))

function_body_sound : Sound IsOperationBody function_body
unfolding function_body
function_body_sound ts r h =
    let a = bind_ok (expect k.Function ts) _ r h in
    let b = bind_ok (identifier a.0.1) _ r a.2 in
    let c = bind_ok (parameters b.0.1) _ r b.2 in
    let d = bind_ok (expect k.Return c.0.1) _ r c.2 in
    let e = bind_ok (name d.0.1) _ r d.2 in
    let f = bind_ok (expect k.Is e.0.1) _ r e.2 in
    let x = bind_ok (block f.0.1) _ r f.2 in
    given IsOperationBody ts _ r x.2 (a.0.1, expected_at k.Function ts a.0 a.1, (b.0.1, identifier_sound _ b.0 b.1, (c.0.1, parameters_sound _ c.0 c.1, (d.0.1, expected k.Return _ d.0 d.1, (e.0.1, name_sound _ e.0 e.1, (f.0.1, expected k.Is _ f.0 f.1, block_sound _ x.0 x.1))))))

procedure_body_sound : Sound IsOperationBody procedure_body
unfolding procedure_body
procedure_body_sound ts r h =
    let a = bind_ok (expect k.Procedure ts) _ r h in
    let b = bind_ok (identifier a.0.1) _ r a.2 in
    let c = bind_ok (parameters b.0.1) _ r b.2 in
    let d = bind_ok (expect k.Is c.0.1) _ r c.2 in
    let e = bind_ok (block d.0.1) _ r d.2 in
    given IsOperationBody ts _ r e.2 (a.0.1, expected_at k.Procedure ts a.0 a.1, (b.0.1, identifier_sound _ b.0 b.1, (c.0.1, parameters_sound _ c.0 c.1, (d.0.1, expected k.Is _ d.0 d.1, block_sound _ e.0 e.1))))

entry_body_sound : Sound IsOperationBody entry_body
unfolding entry_body
entry_body_sound ts r h =
    let a = bind_ok (expect k.Entry ts) _ r h in
    let b = bind_ok (identifier a.0.1) _ r a.2 in
    let c = bind_ok (parameters b.0.1) _ r b.2 in
    let d = bind_ok (expect k.When c.0.1) _ r c.2 in
    let e = bind_ok (any_expression d.0.1) _ r d.2 in
    let f = bind_ok (expect k.Is e.0.1) _ r e.2 in
    let x = bind_ok (block f.0.1) _ r f.2 in
    given IsOperationBody ts _ r x.2 (a.0.1, expected_at k.Entry ts a.0 a.1, (b.0.1, identifier_sound _ b.0 b.1, (c.0.1, parameters_sound _ c.0 c.1, (d.0.1, expected k.When _ d.0 d.1, (e.0.1, any_expression_sound _ e.0 e.1, (f.0.1, expected k.Is _ f.0 f.1, block_sound _ x.0 x.1))))))

operation_body_by_sound : (w : Kind) → Sound IsOperationBody (operation_body_by w)
operation_body_by_sound k.Function ts r h = function_body_sound ts r h
operation_body_by_sound k.Procedure ts r h = procedure_body_sound ts r h
operation_body_by_sound k.Entry ts r h = entry_body_sound ts r h
operation_body_by_sound _ ts r h = absurd cc

operation_body_sound : Sound IsOperationBody operation_body
unfolding operation_body
operation_body_sound = kind_sound IsOperationBody operation_body_by operation_body_by_sound

-- word "body" id "is" {x} "end" [id] ";"
body_of_sound : {A B : Type 0} (word : Kind) (begins : Kind → Bool) (is : A → Phrase) (item : Parser A) (make : (at : ℕ) → Identifier → List A → Option Identifier → B) (is_body : B → Phrase) → Sound is item → ((at : ℕ) (n : Identifier) (xs : List A) (end : Option Identifier) (ts rest : List Lexeme) → (IsAt word at ⨾ Is k.Body ⨾ IsIdentifier n ⨾ Is k.Is ⨾ Each is xs ⨾ IsEnd end) ts rest → is_body (make at n xs end) ts rest) → Sound is_body (body_of word begins item make)
unfolding body_of
body_of_sound word begins is item make is_body item_sound made ts r h =
    let a = bind_ok (expect word ts) _ r h in
    let b = bind_ok (expect k.Body a.0.1) _ r a.2 in
    let c = bind_ok (identifier b.0.1) _ r b.2 in
    let d = bind_ok (expect k.Is c.0.1) _ r c.2 in
    let e = bind_ok (many (starts_by begins) item d.0.1) _ r d.2 in
    let f = bind_ok (end_name e.0.1) _ r e.2 in
    given is_body ts _ r f.2 (made a.0.0 c.0.0 e.0.0 f.0.0 ts f.0.1
    (a.0.1, expected_at word ts a.0 a.1, (b.0.1, expected k.Body _ b.0 b.1, (c.0.1, identifier_sound _ c.0 c.1, (d.0.1, expected k.Is _ d.0 d.1, (e.0.1, many_sound is item item_sound (starts_by begins) _ e.0 e.1, end_name_sound _ f.0 f.1))))))

protected_body_sound : Sound IsProtectedBody protected_body
unfolding protected_body
protected_body_sound = body_of_sound k.Protected begins_operation_body IsOperationBody operation_body _ IsProtectedBody operation_body_sound (λ at n xs end ts rest h. h)

task_body_sound : Sound IsTaskBody task_body
unfolding task_body
task_body_sound ts r h =
    let a = bind_ok (expect k.Task ts) _ r h in
    let b = bind_ok (expect k.Body a.0.1) _ r a.2 in
    let c = bind_ok (identifier b.0.1) _ r b.2 in
    let d = bind_ok (expect k.Is c.0.1) _ r c.2 in
    let e = bind_ok (block d.0.1) _ r d.2 in
    given IsTaskBody ts _ r e.2 (a.0.1, expected_at k.Task ts a.0 a.1, (b.0.1, expected k.Body _ b.0 b.1, (c.0.1, identifier_sound _ c.0 c.1, (d.0.1, expected k.Is _ d.0 d.1, block_sound _ e.0 e.1))))

with_sound : Sound IsContextItem with_clause
unfolding with_clause
with_sound ts r h =
    let a = bind_ok (expect k.With ts) _ r h in
    let b = bind_ok (listed k.Comma name a.0.1) _ r a.2 in
    let c = bind_ok (expect k.Semicolon b.0.1) _ r b.2 in
    given IsContextItem ts _ r c.2 (a.0.1, expected_at k.With ts a.0 a.1, (b.0.1, listed_sound IsName name name_sound k.Comma _ b.0 b.1, expected k.Semicolon _ c.0 c.1))

use_sound : Sound IsContextItem use_clause
unfolding use_clause
use_sound ts r h =
    let a = bind_ok (expect k.Use ts) _ r h in
    let b = bind_ok (listed k.Comma name (after k.Type a.0.1)) _ r a.2 in
    let c = bind_ok (expect k.Semicolon b.0.1) _ r b.2 in
    given IsContextItem ts _ r c.2 (a.0.1, expected_at k.Use ts a.0 a.1, (after k.Type a.0.1, flag_sound k.Type a.0.1, (b.0.1, listed_sound IsName name name_sound k.Comma _ b.0 b.1, expected k.Semicolon _ c.0 c.1)))

context_item_by_sound : (w : Kind) → Sound IsContextItem (context_item_by w)
context_item_by_sound k.Pragma ts r h = let a = bind_ok (a_pragma ts) _ r h in given IsContextItem ts _ r a.2 (pragma_sound ts a.0 a.1)
context_item_by_sound k.With ts r h = with_sound ts r h
context_item_by_sound k.Use ts r h = use_sound ts r h
context_item_by_sound _ ts r h = absurd cc

context_item_sound : Sound IsContextItem context_item
unfolding context_item
context_item_sound = kind_sound IsContextItem context_item_by context_item_by_sound

specification_sound : Sound IsSpecification specification
unfolding specification
specification_sound ts r h =
    let a = bind_ok (expect k.Package ts) _ r h in
    let b = bind_ok (identifier a.0.1) _ r a.2 in
    let c = bind_ok (expect k.Is b.0.1) _ r b.2 in
    let d = bind_ok (many (starts_by begins_declaration) declaration c.0.1) _ r c.2 in
    let e = bind_ok (end_name d.0.1) _ r d.2 in
    given IsSpecification ts _ r e.2 (a.0.1, expected_at k.Package ts a.0 a.1, (b.0.1, identifier_sound _ b.0 b.1, (c.0.1, expected k.Is _ c.0 c.1, (d.0.1, many_sound IsDeclaration declaration declaration_sound (starts_by begins_declaration) _ d.0 d.1, end_name_sound _ e.0 e.1))))

item_declaration : (ts : List Lexeme) (r : u.BodyItem × List Lexeme) → and_then (declaration ts) (λ d. pure (u.body_declaration d)) ≡ Ok r → IsBodyItem r.0 ts r.1
item_declaration ts r h = let a = bind_ok (declaration ts) _ r h in given IsBodyItem ts _ r a.2 (declaration_sound ts a.0 a.1)

body_item_sound : Sound IsBodyItem body_item
unfolding body_item
body_item_sound ts r h = elim (chosen (sees k.Body (next ts)) _ _ _ h) [
  | inl g ↦ elim (chosen (sees k.Protected ts) _ _ _ g.1) [
    | inl m ↦ let a = bind_ok (protected_body ts) _ r m.1 in given IsBodyItem ts _ r a.2 (protected_body_sound ts a.0 a.1)
    | inr m ↦ elim (chosen (sees k.Task ts) _ _ _ m.1) [
      | inl l ↦ let a = bind_ok (task_body ts) _ r l.1 in given IsBodyItem ts _ r a.2 (task_body_sound ts a.0 a.1)
      | inr l ↦ item_declaration ts r l.1
    ]
  ]
  | inr g ↦ item_declaration ts r g.1
]

body_sound : Sound IsBody body
unfolding body
body_sound = body_of_sound k.Package begins_declaration IsBodyItem body_item _ IsBody body_item_sound (λ at n xs end ts rest h. h)

pub unit_sound : Sound IsUnit unit
unfolding unit
unit_sound ts r h =
    let a = bind_ok (many (starts_by begins_context_item) context_item ts) _ r h in
    let b = bind_ok (specification a.0.1) _ r a.2 in
    let c = bind_ok (body b.0.1) _ r b.2 in
    given IsUnit ts _ r c.2 (a.0.1, many_sound IsContextItem context_item context_item_sound (starts_by begins_context_item) ts a.0 a.1, (b.0.1, specification_sound _ b.0 b.1, body_sound _ c.0 c.1))
