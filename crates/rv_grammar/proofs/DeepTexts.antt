-- A text is refused as too deep only where its words nest too deep.
use Rattle.std.proofs.Common.{◌≡◌, inl, inr, ℕ, Bool, List, [], ◌++◌, Option, Ok, Err, refl}
use Rattle.rv_lex.specs.declared.kind.Kind.{Kind}
use Rattle.rv_lex.specs.declared.kind.Kind.TheVariants as k
use Rattle.rv_lex.specs.Lexes.{Lexeme}
use Rattle.rv_tree.specs.Names.{Identifier}
use Rattle.rv_tree.specs.Statements as s
use Rattle.rv_tree.specs.Bodies as t
use Rattle.rv_tree.specs.Units as u
use Rattle.rv_grammar.specs.declared.fault.ParseFault.{ParseFault}
use Rattle.rv_grammar.specs.declared.fault.ParseFault.TheVariants as parse
use Rattle.rv_grammar.specs.Contract.{Refuses}
use Rattle.rv_grammar.specs.Reading.{unexpected, too_deep, Outcome, Parser, and_then, pure, sees, next, starts_by}
use Rattle.rv_grammar.specs.NameRules.{identifier, name}
use Rattle.rv_grammar.specs.DeclarationRules.{any_expression, range, a_pragma, parameters, protected_unit, task, begins_declaration, declaration}
use Rattle.rv_grammar.specs.StatementRules.{statements, statement}
use Rattle.rv_grammar.specs.BodyRules.{any_statements, local_object, begins_local, local_by, a_local, exception_choice, handler, handlers, block, function_body, procedure_body, entry_body, begins_operation_body, operation_body_by, operation_body, body_of, protected_body, task_body}
use Rattle.rv_grammar.specs.UnitRules.{with_clause, use_clause, begins_context_item, context_item_by, context_item, specification, body_item, body, unit}
use Rattle.rv_grammar.specs.Nesting.{opens, closes, NestsTooDeep}
use Rattle.rv_grammar.specs.Words.{DeepWords}
use Rattle.rv_grammar.proofs.Tame.{Walk, Tamed, Tame, went, told, tame_too, ◌⊳◌, pure_tame, refuse_tame, if_tame, choice_tame, expect_tame, eat_tame, identifier_tame, by_kind_tame, many_tame, at_least_one_tame, optional_tame, optional_after_tame, listed_tame, name_tame, end_name_tame}
use Rattle.rv_grammar.proofs.TameExpression.{joined_up}
use Rattle.rv_grammar.proofs.TameRules.{Ends, more_before, telling, plain, any_expression_tame, range_tame, a_pragma_tame, parameters_tame, protected_unit_tame, task_tame, declaration_tame}
use Rattle.rv_grammar.proofs.TameStatements.{free, Deep, statements_free, statement_free}
use Rattle.rv_grammar.proofs.StatementSound.{statement_sound}
use Rattle.rv_grammar.proofs.DeepStatements.{InStatements, statements_deep, statement_deep}

pub deep_before : (a b : List Lexeme) → Ends a b → NestsTooDeep b → NestsTooDeep a
deep_before a b h (inl m) = inl (more_before a b h m)
deep_before a b h (inr m) = inr (record { before = h.front ++ m.before; inside = m.inside; whole = joined_up a b m.inside h.front m.before h.whole m.whole; many = m.many })

-- over any words, with too many parentheses or statements told
abbrev pub outer : Walk
outer = telling NestsTooDeep deep_before

from_plain : {A : Type 0} (p : Parser A) → Tame plain p → Tame outer p
from_plain = tame_too plain outer (λ a b h. h) (λ ts h. inl h)

-- 64 statements around a 65th
nested_deep : (ts : List Lexeme) → Deep 64 InStatements ts → NestsTooDeep ts
unfolding Deep
nested_deep ts (inl m) = inl m
nested_deep ts (inr q) = inr (record { before = q.3.front; inside = q.0; whole = q.3.whole; many = q.2 })

any_statements_tame : Tame outer any_statements
unfolding any_statements Tamed
any_statements_tame = record { at = λ ts. by_outcome ts (statements (statement 64) ts) refl }
  where
    by_outcome : (ts : List Lexeme) (o : Outcome (List s.Statement)) → statements (statement 64) ts ≡ o → Tamed outer ts o
    by_outcome ts (Ok r) e = went free (statements (statement 64)) ts r (statements_free (statement 64) (statement_free 64)) e
    by_outcome ts (Err too_deep) e = nested_deep ts (statements_deep 64 (statement 64) (statement_sound 64) (statement_free 64) (statement_deep 64) ts e)
    by_outcome ts (Err unexpected) e = tt

local_object_tame : Tame outer local_object
unfolding local_object
local_object_tame = listed_tame outer identifier (identifier_tame outer) k.Comma refl refl ⊳ (λ names. expect_tame outer k.Colon refl refl ⊳ (λ _. eat_tame outer k.Constant refl refl ⊳ (λ is_constant. name_tame outer ⊳ (λ mark. optional_tame outer range (from_plain range range_tame) (sees k.Range) ⊳ (λ constraint. optional_after_tame outer any_expression (from_plain any_expression any_expression_tame) k.Becomes refl refl ⊳ (λ value. expect_tame outer k.Semicolon refl refl ⊳ (λ _. pure_tame outer (t.an_object names is_constant mark constraint value))))))))

local_by_tame : (what : Kind) → Tame outer (local_by what)
local_by_tame k.Identifier = local_object_tame
local_by_tame k.Pragma = from_plain a_pragma a_pragma_tame ⊳ (λ p. pure_tame outer _)
local_by_tame k.Protected = from_plain protected_unit protected_unit_tame ⊳ (λ p. pure_tame outer _)
local_by_tame k.Task = from_plain task task_tame ⊳ (λ p. pure_tame outer _)
local_by_tame _ = refuse_tame outer t.Local

a_local_tame : Tame outer a_local
unfolding a_local
a_local_tame = by_kind_tame outer local_by local_by_tame

exception_choice_tame : Tame outer exception_choice
unfolding exception_choice
exception_choice_tame = choice_tame outer (sees k.Others) _ _ (expect_tame outer k.Others refl refl ⊳ (λ at. pure_tame outer (t.other_exceptions at))) (name_tame outer ⊳ (λ n. pure_tame outer (t.exception_named n)))

handler_tame : Tame outer handler
unfolding handler
handler_tame = expect_tame outer k.When refl refl ⊳ (λ x_1. listed_tame outer exception_choice exception_choice_tame k.Bar refl refl ⊳ (λ x_2. expect_tame outer k.Arrow refl refl ⊳ (λ x_3. any_statements_tame ⊳ (λ x_4. pure_tame outer _))))

handlers_tame : Tame outer handlers
unfolding handlers
handlers_tame = eat_tame outer k.Exception refl refl ⊳ (λ seen. if_tame outer seen _ _ (at_least_one_tame outer handler handler_tame (sees k.When)) (pure_tame outer []))

block_tame : Tame outer block
unfolding block
block_tame = many_tame outer a_local a_local_tame (starts_by begins_local) ⊳ (λ x_1. expect_tame outer k.Begin refl refl ⊳ (λ x_2. any_statements_tame ⊳ (λ x_3. handlers_tame ⊳ (λ x_4. end_name_tame outer ⊳ (λ x_5. pure_tame outer _)))))

function_body_tame : Tame outer function_body
unfolding function_body
function_body_tame = expect_tame outer k.Function refl refl ⊳ (λ x_1. identifier_tame outer ⊳ (λ x_2. from_plain parameters parameters_tame ⊳ (λ x_3. expect_tame outer k.Return refl refl ⊳ (λ x_4. name_tame outer ⊳ (λ x_5. expect_tame outer k.Is refl refl ⊳ (λ x_6. block_tame ⊳ (λ x_7. pure_tame outer _)))))))

procedure_body_tame : Tame outer procedure_body
unfolding procedure_body
procedure_body_tame = expect_tame outer k.Procedure refl refl ⊳ (λ x_1. identifier_tame outer ⊳ (λ x_2. from_plain parameters parameters_tame ⊳ (λ x_3. expect_tame outer k.Is refl refl ⊳ (λ x_4. block_tame ⊳ (λ x_5. pure_tame outer _)))))

entry_body_tame : Tame outer entry_body
unfolding entry_body
entry_body_tame = expect_tame outer k.Entry refl refl ⊳ (λ x_1. identifier_tame outer ⊳ (λ x_2. from_plain parameters parameters_tame ⊳ (λ x_3. expect_tame outer k.When refl refl ⊳ (λ x_4. from_plain any_expression any_expression_tame ⊳ (λ x_5. expect_tame outer k.Is refl refl ⊳ (λ x_6. block_tame ⊳ (λ x_7. pure_tame outer _)))))))

operation_body_by_tame : (what : Kind) → Tame outer (operation_body_by what)
operation_body_by_tame k.Function = function_body_tame
operation_body_by_tame k.Procedure = procedure_body_tame
operation_body_by_tame k.Entry = entry_body_tame
operation_body_by_tame _ = refuse_tame outer t.OperationBody

operation_body_tame : Tame outer operation_body
unfolding operation_body
operation_body_tame = by_kind_tame outer operation_body_by operation_body_by_tame

body_of_tame : {A B : Type 0} (word : Kind) → opens word ≡ 0 → closes word ≡ 0 → (begins : Kind → Bool) (item : Parser A) → Tame outer item → (make : (at : ℕ) → Identifier → List A → Option Identifier → B) → Tame outer (body_of word begins item make)
unfolding body_of
body_of_tame word o c begins item item_tame make = expect_tame outer word o c ⊳ (λ x_1. expect_tame outer k.Body refl refl ⊳ (λ x_2. identifier_tame outer ⊳ (λ x_3. expect_tame outer k.Is refl refl ⊳ (λ x_4. many_tame outer item item_tame (starts_by begins) ⊳ (λ x_5. end_name_tame outer ⊳ (λ x_6. pure_tame outer _))))))

protected_body_tame : Tame outer protected_body
unfolding protected_body
protected_body_tame = body_of_tame k.Protected refl refl begins_operation_body operation_body operation_body_tame _

task_body_tame : Tame outer task_body
unfolding task_body
task_body_tame = expect_tame outer k.Task refl refl ⊳ (λ x_1. expect_tame outer k.Body refl refl ⊳ (λ x_2. identifier_tame outer ⊳ (λ x_3. expect_tame outer k.Is refl refl ⊳ (λ x_4. block_tame ⊳ (λ x_5. pure_tame outer _)))))

with_clause_tame : Tame outer with_clause
unfolding with_clause
with_clause_tame = expect_tame outer k.With refl refl ⊳ (λ x_1. listed_tame outer name (name_tame outer) k.Comma refl refl ⊳ (λ x_2. expect_tame outer k.Semicolon refl refl ⊳ (λ x_3. pure_tame outer _)))

use_clause_tame : Tame outer use_clause
unfolding use_clause
use_clause_tame = expect_tame outer k.Use refl refl ⊳ (λ x_1. eat_tame outer k.Type refl refl ⊳ (λ x_2. listed_tame outer name (name_tame outer) k.Comma refl refl ⊳ (λ x_3. expect_tame outer k.Semicolon refl refl ⊳ (λ x_4. pure_tame outer (u.use_clause x_1 x_2 x_3)))))

context_item_by_tame : (what : Kind) → Tame outer (context_item_by what)
context_item_by_tame k.Pragma = from_plain a_pragma a_pragma_tame ⊳ (λ p. pure_tame outer _)
context_item_by_tame k.With = with_clause_tame
context_item_by_tame k.Use = use_clause_tame
context_item_by_tame _ = refuse_tame outer u.ContextItem

context_item_tame : Tame outer context_item
unfolding context_item
context_item_tame = by_kind_tame outer context_item_by context_item_by_tame

specification_tame : Tame outer specification
unfolding specification
specification_tame = expect_tame outer k.Package refl refl ⊳ (λ x_1. identifier_tame outer ⊳ (λ x_2. expect_tame outer k.Is refl refl ⊳ (λ x_3. many_tame outer declaration (from_plain declaration declaration_tame) (starts_by begins_declaration) ⊳ (λ x_4. end_name_tame outer ⊳ (λ x_5. pure_tame outer _)))))

declared_tame : Tame outer (λ i. and_then (declaration i) (λ d. pure (u.body_declaration d)))
declared_tame = from_plain declaration declaration_tame ⊳ (λ d. pure_tame outer (u.body_declaration d))

body_item_tame : Tame outer body_item
unfolding body_item
body_item_tame = choice_tame outer (λ i. sees k.Body (next i)) _ _
    (choice_tame outer (sees k.Protected) _ _ (protected_body_tame ⊳ (λ b. pure_tame outer (u.body_protected b)))
    (choice_tame outer (sees k.Task) _ _ (task_body_tame ⊳ (λ b. pure_tame outer (u.body_task b))) declared_tame))
    declared_tame

body_tame : Tame outer body
unfolding body
body_tame = body_of_tame k.Package refl refl begins_declaration body_item body_item_tame _

unit_tame : Tame outer unit
unfolding unit
unit_tame = many_tame outer context_item context_item_tame (starts_by begins_context_item) ⊳ (λ x_1. specification_tame ⊳ (λ x_2. body_tame ⊳ (λ x_3. pure_tame outer _)))

-- what a text is refused for
pub refused_deep : (ts : List Lexeme) (fault : ParseFault) → Refuses fault (unit ts) → DeepWords ts (Err fault)
refused_deep ts parse.NoMemory h = tt
refused_deep ts (parse.TooDeep at) h = told outer unit ts unit_tame h
refused_deep ts (parse.Unexpected at) h = tt
refused_deep ts (parse.Lex fault) h = tt
