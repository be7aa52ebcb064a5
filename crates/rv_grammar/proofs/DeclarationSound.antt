-- What is read as a declaration is one of the grammar.
use Rattle.std.proofs.Common.{◌≡◌, inl, inr, Bool, true, false, ◌&&◌, List, [], ◌∷◌, Some, None, Ok, refl, sym, ◌∙◌, subst}
use Rattle.rv_lex.specs.declared.kind.Kind.{Kind}
use Rattle.rv_lex.specs.declared.kind.Kind.TheVariants as k
use Rattle.rv_lex.specs.Lexes.{Lexeme}
use Rattle.rv_tree.specs.Phrases.{Phrase, Is, Maybe, Listed}
use Rattle.rv_tree.specs.NameGrammar.{IsIdentifier, IsName, AreIdentifiers, IsEnd}
use Rattle.rv_tree.specs.ExpressionGrammar.{IsExpression, IsRange}
use Rattle.rv_tree.specs.Declarations as t
use Rattle.rv_tree.specs.DeclarationGrammar.{IsNamed, IsPragmaArgument, IsPragma, IsAspect, AreAspects, IsMode, IsParameter, AreParameters, IsEntry, IsOperation, IsElement, IsPrivatePart, IsProtectedUnit, IsTaskItem, IsTaskDefinition, IsTask, IsDeclaration}
use Rattle.rv_grammar.specs.Reading.{Parser, and_then, pure, sees, next, after, by_kind, starts_by, expect, many, listed, enclosed, optional, optional_after}
use Rattle.rv_grammar.specs.NameRules.{identifier, name, end_name}
use Rattle.rv_grammar.specs.ExpressionRules.{expression}
use Rattle.rv_grammar.specs.DeclarationRules.{any_expression, range, argument_name, pragma_argument, a_pragma, aspect, aspects, mode_of, mode, parameter, parameters, entry, function, procedure, begins_operation, operation_by, operation, component, begins_element, element, private_part, protected_unit, begins_task_item, task_item, task_definition, task, a_subtype, constant, variable, object, declaration_by, declaration}
use Rattle.rv_grammar.proofs.Steps.{Sound, bind_ok, given, branch_ok, chosen, eaten, not_eaten, expected, expected_at, flag_sound, identifier_sound, many_sound, listed_sound, enclosed_sound, optional_sound, optional_after_sound}
use Rattle.rv_grammar.proofs.ExpressionSound.{name_sound, expression_sound}

pub any_expression_sound : Sound IsExpression any_expression
any_expression_sound = expression_sound 64

pub identifiers_sound : Sound AreIdentifiers (listed k.Comma identifier)
identifiers_sound = listed_sound IsIdentifier identifier identifier_sound k.Comma

pub end_name_sound : Sound IsEnd end_name
unfolding end_name
end_name_sound ts r h =
    let a = bind_ok (expect k.End ts) _ r h in
    let b = bind_ok (optional (sees k.Identifier) identifier a.0.1) _ r a.2 in
    let c = bind_ok (expect k.Semicolon b.0.1) _ r b.2 in
    given IsEnd ts _ r c.2 (a.0.1, expected k.End ts a.0 a.1, (b.0.1, optional_sound IsIdentifier identifier identifier_sound (sees k.Identifier) a.0.1 b.0 b.1, expected k.Semicolon _ c.0 c.1))

pub range_sound : Sound IsRange range
unfolding range
range_sound ts r h =
    let a = bind_ok (expect k.Range ts) _ r h in
    let b = bind_ok (any_expression a.0.1) _ r a.2 in
    let c = bind_ok (expect k.DoubleDot b.0.1) _ r b.2 in
    let d = bind_ok (any_expression c.0.1) _ r c.2 in
    given IsRange ts _ r d.2 (a.0.1, expected_at k.Range ts a.0 a.1, (b.0.1, any_expression_sound _ b.0 b.1, (c.0.1, expected k.DoubleDot _ c.0 c.1, any_expression_sound _ d.0 d.1)))

argument_name_sound : Sound (Maybe IsNamed) argument_name
unfolding argument_name
argument_name_sound ts r h = elim (chosen (sees k.Identifier ts && sees k.Arrow (next ts)) (and_then (identifier ts) (λ n. λ j. and_then (expect k.Arrow j) (λ _. pure (Some n)))) (Ok (None, ts)) (Ok r) h) [
  | inl g ↦
      let a = bind_ok (identifier ts) _ r g.1 in
      let b = bind_ok (expect k.Arrow a.0.1) _ r a.2 in
      given (Maybe IsNamed) ts _ r b.2 (a.0.1, identifier_sound ts a.0 a.1, expected k.Arrow _ b.0 b.1)
  | inr g ↦ given (Maybe IsNamed) ts _ r g.1 refl
]

pragma_argument_sound : Sound IsPragmaArgument pragma_argument
unfolding pragma_argument
pragma_argument_sound ts r h =
    let a = bind_ok (argument_name ts) _ r h in
    let b = bind_ok (expression 63 a.0.1) _ r a.2 in
    given IsPragmaArgument ts _ r b.2 (a.0.1, argument_name_sound ts a.0 a.1, expression_sound 63 _ b.0 b.1)

pub pragma_sound : Sound IsPragma a_pragma
unfolding a_pragma
pragma_sound ts r h =
    let a = bind_ok (expect k.Pragma ts) _ r h in
    let b = bind_ok (identifier a.0.1) _ r a.2 in
    let c = bind_ok (enclosed k.Comma pragma_argument b.0.1) _ r b.2 in
    let d = bind_ok (expect k.Semicolon c.0.1) _ r c.2 in
    given IsPragma ts _ r d.2 (a.0.1, expected_at k.Pragma ts a.0 a.1, (b.0.1, identifier_sound _ b.0 b.1, (c.0.1, enclosed_sound IsPragmaArgument pragma_argument pragma_argument_sound k.Comma _ c.0 c.1, expected k.Semicolon _ d.0 d.1)))

aspect_sound : Sound IsAspect aspect
unfolding aspect
aspect_sound ts r h =
    let a = bind_ok (identifier ts) _ r h in
    let b = bind_ok (optional_after k.Arrow any_expression a.0.1) _ r a.2 in
    given IsAspect ts _ r b.2 (a.0.1, identifier_sound ts a.0 a.1, optional_after_sound IsExpression any_expression any_expression_sound k.Arrow _ b.0 b.1)

aspects_list : (xs : List t.Aspect) (a b c : List Lexeme) → Is k.With a b → Listed k.Comma IsAspect xs b c → AreAspects xs a c
aspects_list [] a b c w h = absurd h
aspects_list (x ∷ xs) a b c w h = (b, w, h)

pub aspects_sound : Sound AreAspects aspects
unfolding aspects
aspects_sound ts r h = elim (branch_ok (sees k.With ts) _ _ _ r h) [
  | inl g ↦ aspects_list r.0 ts (after k.With ts) r.1 (eaten k.With ts g.0) (listed_sound IsAspect aspect aspect_sound k.Comma _ r g.1)
  | inr g ↦ given AreAspects ts _ r g.1 (sym (not_eaten k.With ts g.0))
]

mode_sound : Sound IsMode mode
unfolding mode
mode_sound ts r h = given IsMode ts _ r h (by_flags (sees k.In ts) (sees k.Out (after k.In ts)) refl refl)
  where
    by_flags : (a b : Bool) → sees k.In ts ≡ a → sees k.Out (after k.In ts) ≡ b → IsMode (mode_of a b) ts (after k.Out (after k.In ts))
    by_flags true true p q = (after k.In ts, eaten k.In ts p, eaten k.Out _ q)
    by_flags true false p q = subst (λ us. Is k.In ts us) (sym (not_eaten k.Out _ q)) (eaten k.In ts p)
    by_flags false true p q = subst (λ us. Is k.Out us (after k.Out (after k.In ts))) (not_eaten k.In ts p) (eaten k.Out (after k.In ts) q)
    by_flags false false p q = sym (not_eaten k.Out _ q ∙ not_eaten k.In ts p)

parameter_sound : Sound IsParameter parameter
unfolding parameter
parameter_sound ts r h =
    let a = bind_ok (listed k.Comma identifier ts) _ r h in
    let b = bind_ok (expect k.Colon a.0.1) _ r a.2 in
    let c = bind_ok (mode b.0.1) _ r b.2 in
    let d = bind_ok (name c.0.1) _ r c.2 in
    given IsParameter ts _ r d.2 (a.0.1, identifiers_sound ts a.0 a.1, (b.0.1, expected k.Colon _ b.0 b.1, (c.0.1, mode_sound _ c.0 c.1, name_sound _ d.0 d.1)))

pub parameters_sound : Sound AreParameters parameters
unfolding parameters
parameters_sound = enclosed_sound IsParameter parameter parameter_sound k.Semicolon

pub entry_sound : Sound IsEntry entry
unfolding entry
entry_sound ts r h =
    let a = bind_ok (expect k.Entry ts) _ r h in
    let b = bind_ok (identifier a.0.1) _ r a.2 in
    let c = bind_ok (parameters b.0.1) _ r b.2 in
    let d = bind_ok (expect k.Semicolon c.0.1) _ r c.2 in
    given IsEntry ts _ r d.2 (a.0.1, expected_at k.Entry ts a.0 a.1, (b.0.1, identifier_sound _ b.0 b.1, (c.0.1, parameters_sound _ c.0 c.1, expected k.Semicolon _ d.0 d.1)))

function_sound : Sound IsOperation function
unfolding function
function_sound ts r h =
    let a = bind_ok (expect k.Function ts) _ r h in
    let b = bind_ok (identifier a.0.1) _ r a.2 in
    let c = bind_ok (parameters b.0.1) _ r b.2 in
    let d = bind_ok (expect k.Return c.0.1) _ r c.2 in
    let e = bind_ok (name d.0.1) _ r d.2 in
    let f = bind_ok (expect k.Semicolon e.0.1) _ r e.2 in
    given IsOperation ts _ r f.2 (a.0.1, expected_at k.Function ts a.0 a.1, (b.0.1, identifier_sound _ b.0 b.1, (c.0.1, parameters_sound _ c.0 c.1, (d.0.1, expected k.Return _ d.0 d.1, (e.0.1, name_sound _ e.0 e.1, expected k.Semicolon _ f.0 f.1)))))

procedure_sound : Sound IsOperation procedure
unfolding procedure
procedure_sound ts r h =
    let a = bind_ok (expect k.Procedure ts) _ r h in
    let b = bind_ok (identifier a.0.1) _ r a.2 in
    let c = bind_ok (parameters b.0.1) _ r b.2 in
    let d = bind_ok (aspects c.0.1) _ r c.2 in
    let e = bind_ok (expect k.Semicolon d.0.1) _ r d.2 in
    given IsOperation ts _ r e.2 (a.0.1, expected_at k.Procedure ts a.0 a.1, (b.0.1, identifier_sound _ b.0 b.1, (c.0.1, parameters_sound _ c.0 c.1, (d.0.1, aspects_sound _ d.0 d.1, expected k.Semicolon _ e.0 e.1))))

-- a rule that the kind of the next token chooses
pub kind_sound : {A : Type 0} (is : A → Phrase) (by : Kind → Parser A) → ((w : Kind) → Sound is (by w)) → Sound is (by_kind by)
kind_sound is by sound [] r h = absurd cc
kind_sound is by sound (x ∷ ts) r h = sound x.kind (x ∷ ts) r h

operation_by_sound : (w : Kind) → Sound IsOperation (operation_by w)
operation_by_sound k.Pragma ts r h = let a = bind_ok (a_pragma ts) _ r h in given IsOperation ts _ r a.2 (pragma_sound ts a.0 a.1)
operation_by_sound k.Function ts r h = function_sound ts r h
operation_by_sound k.Procedure ts r h = procedure_sound ts r h
operation_by_sound k.Entry ts r h = let a = bind_ok (entry ts) _ r h in given IsOperation ts _ r a.2 (entry_sound ts a.0 a.1)
operation_by_sound _ ts r h = absurd cc

operation_sound : Sound IsOperation operation
unfolding operation
operation_sound = kind_sound IsOperation operation_by operation_by_sound

component_sound : Sound IsElement component
unfolding component
component_sound ts r h =
    let a = bind_ok (listed k.Comma identifier ts) _ r h in
    let b = bind_ok (expect k.Colon a.0.1) _ r a.2 in
    let c = bind_ok (name b.0.1) _ r b.2 in
    let d = bind_ok (optional (sees k.Range) range c.0.1) _ r c.2 in
    let e = bind_ok (optional_after k.Becomes any_expression d.0.1) _ r d.2 in
    let f = bind_ok (expect k.Semicolon e.0.1) _ r e.2 in
    given IsElement ts _ r f.2 (a.0.1, identifiers_sound ts a.0 a.1, (b.0.1, expected k.Colon _ b.0 b.1, (c.0.1, name_sound _ c.0 c.1, (d.0.1, optional_sound IsRange range range_sound (sees k.Range) _ d.0 d.1, (e.0.1, optional_after_sound IsExpression any_expression any_expression_sound k.Becomes _ e.0 e.1, expected k.Semicolon _ f.0 f.1)))))

element_sound : Sound IsElement element
unfolding element
element_sound ts r h = elim (chosen (sees k.Identifier ts) _ _ _ h) [
  | inl g ↦ component_sound ts r g.1
  | inr g ↦ let a = bind_ok (operation ts) _ r g.1 in given IsElement ts _ r a.2 (operation_sound ts a.0 a.1)
]

private_part_sound : Sound (Maybe IsPrivatePart) private_part
unfolding private_part
private_part_sound ts r h = elim (branch_ok (sees k.Private ts) _ _ _ r h) [
  | inl g ↦
      let a = bind_ok (many (starts_by begins_element) element (after k.Private ts)) _ r g.1 in
      given (Maybe IsPrivatePart) ts _ r a.2 (after k.Private ts, eaten k.Private ts g.0, many_sound IsElement element element_sound (starts_by begins_element) _ a.0 a.1)
  | inr g ↦ given (Maybe IsPrivatePart) ts _ r g.1 (sym (not_eaten k.Private ts g.0))
]

pub protected_unit_sound : Sound IsProtectedUnit protected_unit
unfolding protected_unit
protected_unit_sound ts r h =
    let a = bind_ok (expect k.Protected ts) _ r h in
    let b = bind_ok (identifier (after k.Type a.0.1)) _ r a.2 in
    let c = bind_ok (aspects b.0.1) _ r b.2 in
    let d = bind_ok (expect k.Is c.0.1) _ r c.2 in
    let e = bind_ok (many (starts_by begins_operation) operation d.0.1) _ r d.2 in
    let f = bind_ok (private_part e.0.1) _ r e.2 in
    let g = bind_ok (end_name f.0.1) _ r f.2 in
    given IsProtectedUnit ts _ r g.2 (a.0.1, expected_at k.Protected ts a.0 a.1, (after k.Type a.0.1, flag_sound k.Type a.0.1, (b.0.1, identifier_sound _ b.0 b.1, (c.0.1, aspects_sound _ c.0 c.1, (d.0.1, expected k.Is _ d.0 d.1, (e.0.1, many_sound IsOperation operation operation_sound (starts_by begins_operation) _ e.0 e.1, (f.0.1, private_part_sound _ f.0 f.1, end_name_sound _ g.0 g.1)))))))

task_item_sound : Sound IsTaskItem task_item
unfolding task_item
task_item_sound ts r h = elim (chosen (sees k.Pragma ts) _ _ _ h) [
  | inl g ↦ let a = bind_ok (a_pragma ts) _ r g.1 in given IsTaskItem ts _ r a.2 (pragma_sound ts a.0 a.1)
  | inr g ↦ let a = bind_ok (entry ts) _ r g.1 in given IsTaskItem ts _ r a.2 (entry_sound ts a.0 a.1)
]

task_definition_sound : Sound IsTaskDefinition task_definition
unfolding task_definition
task_definition_sound ts r h = elim (branch_ok (sees k.Is ts) _ _ _ r h) [
  | inl g ↦
      let a = bind_ok (many (starts_by begins_task_item) task_item (after k.Is ts)) _ r g.1 in
      let b = bind_ok (end_name a.0.1) _ r a.2 in
      given IsTaskDefinition ts _ r b.2 (after k.Is ts, eaten k.Is ts g.0, (a.0.1, many_sound IsTaskItem task_item task_item_sound (starts_by begins_task_item) _ a.0 a.1, end_name_sound _ b.0 b.1))
  | inr g ↦
      let a = bind_ok (expect k.Semicolon (after k.Is ts)) _ r g.1 in
      given IsTaskDefinition ts _ r a.2 (subst (λ us. Is k.Semicolon us a.0.1) (not_eaten k.Is ts g.0) (expected k.Semicolon _ a.0 a.1))
]

pub task_sound : Sound IsTask task
unfolding task
task_sound ts r h =
    let a = bind_ok (expect k.Task ts) _ r h in
    let b = bind_ok (identifier a.0.1) _ r a.2 in
    let c = bind_ok (aspects b.0.1) _ r b.2 in
    let d = bind_ok (task_definition c.0.1) _ r c.2 in
    given IsTask ts _ r d.2 (a.0.1, expected_at k.Task ts a.0 a.1, (b.0.1, identifier_sound _ b.0 b.1, (c.0.1, aspects_sound _ c.0 c.1, task_definition_sound _ d.0 d.1)))

subtype_sound : Sound IsDeclaration a_subtype
unfolding a_subtype
subtype_sound ts r h =
    let a = bind_ok (expect k.Subtype ts) _ r h in
    let b = bind_ok (identifier a.0.1) _ r a.2 in
    let c = bind_ok (expect k.Is b.0.1) _ r b.2 in
    let d = bind_ok (name c.0.1) _ r c.2 in
    let e = bind_ok (optional (sees k.Range) range d.0.1) _ r d.2 in
    let f = bind_ok (expect k.Semicolon e.0.1) _ r e.2 in
    given IsDeclaration ts _ r f.2 (a.0.1, expected_at k.Subtype ts a.0 a.1, (b.0.1, identifier_sound _ b.0 b.1, (c.0.1, expected k.Is _ c.0 c.1, (d.0.1, name_sound _ d.0 d.1, (e.0.1, optional_sound IsRange range range_sound (sees k.Range) _ e.0 e.1, expected k.Semicolon _ f.0 f.1)))))

object_sound : Sound IsDeclaration object
unfolding object constant variable
object_sound ts r h =
    let a = bind_ok (listed k.Comma identifier ts) _ r h in
    let b = bind_ok (expect k.Colon a.0.1) _ r a.2 in
    elim (chosen (sees k.Constant b.0.1) _ _ _ b.2) [
      | inl g ↦
          let c = bind_ok (expect k.Constant b.0.1) _ r g.1 in
          let d = bind_ok (optional (sees k.Identifier) name c.0.1) _ r c.2 in
          let e = bind_ok (expect k.Becomes d.0.1) _ r d.2 in
          let f = bind_ok (any_expression e.0.1) _ r e.2 in
          let g = bind_ok (expect k.Semicolon f.0.1) _ r f.2 in
          given IsDeclaration ts _ r g.2 (a.0.1, identifiers_sound ts a.0 a.1, (b.0.1, expected k.Colon _ b.0 b.1, (c.0.1, expected k.Constant _ c.0 c.1, (d.0.1, optional_sound IsName name name_sound (sees k.Identifier) _ d.0 d.1, (f.0.1, (e.0.1, expected k.Becomes _ e.0 e.1, any_expression_sound _ f.0 f.1), expected k.Semicolon _ g.0 g.1)))))
      | inr g ↦
          let c = bind_ok (name b.0.1) _ r g.1 in
          let d = bind_ok (expect k.Semicolon c.0.1) _ r c.2 in
          given IsDeclaration ts _ r d.2 (a.0.1, identifiers_sound ts a.0 a.1, (b.0.1, expected k.Colon _ b.0 b.1, (c.0.1, name_sound _ c.0 c.1, expected k.Semicolon _ d.0 d.1)))
    ]

declaration_by_sound : (w : Kind) → Sound IsDeclaration (declaration_by w)
declaration_by_sound k.Pragma ts r h = let a = bind_ok (a_pragma ts) _ r h in given IsDeclaration ts _ r a.2 (pragma_sound ts a.0 a.1)
declaration_by_sound k.Subtype ts r h = subtype_sound ts r h
declaration_by_sound k.Protected ts r h = let a = bind_ok (protected_unit ts) _ r h in given IsDeclaration ts _ r a.2 (protected_unit_sound ts a.0 a.1)
declaration_by_sound k.Task ts r h = let a = bind_ok (task ts) _ r h in given IsDeclaration ts _ r a.2 (task_sound ts a.0 a.1)
declaration_by_sound k.Identifier ts r h = object_sound ts r h
declaration_by_sound _ ts r h = absurd cc

pub declaration_sound : Sound IsDeclaration declaration
unfolding declaration
declaration_sound = kind_sound IsDeclaration declaration_by declaration_by_sound
