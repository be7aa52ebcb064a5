-- What fits keeps fitting when more units are loaded.
use Rattle.std.proofs.Common.{◌≡◌, ℕ, zero, suc, ◌+◌, List, [], ◌∷◌, ◌++◌, Bool, true, false, Option, Some, None, refl, sym, ap, ◌∙◌, length}
use Rattle.std.specs.List.{list_all}
use Rattle.std.specs.Prelude.{◌&&◌, replicate}
use Rattle.rv_shape.specs.Shape.{Shape}
use Rattle.rv_shape.specs.Catalogue.{UnitObject, Target, Nowhere, place, target, at_unit_object}
use Rattle.rv_shape.proofs.Stay.{object_stays, target_stays}
use Rattle.rv_code.specs.Callees.{of_object}
use Rattle.rv_code.specs.declared.expression.Callee.{Callee}
use Rattle.rv_code.specs.declared.expression.Callee.TheVariants as callee
use Rattle.rv_code.specs.Expressions.{Expression, literal, variable, component, prefixed, chain, within, call, Expressions, no_expressions, and_expression, Links, no_links, and_link}
use Rattle.rv_code.specs.Statements.{Statement, null_statement, assign, choice, selection, while_loop, for_loop, exit_when, returns, returns_value, raises, reraises, calls, Statements, no_statements, and_statement, Branches, no_branches, and_branch, Alternatives, no_alternatives, and_alternative}
use Rattle.rv_code.specs.Bodies.{Body, UnitBodies, without_bodies}
use Rattle.rv_fits.specs.Calls.{expression_calls, expressions_call, links_call, statement_calls, statements_call, branches_call, alternatives_call, declaration_calls, handler_calls, body_calls, object_calls, task_calls, such_in, objects_call, calls_from, every_call}
use Rattle.rv_fits.specs.Fits.{calls_function, calls_procedure, calls_entry, is_suspension, callee_fits, calls_fit}
use Rattle.rv_fits.proofs.Both.{first_of_both, second_of_both, both_hold}

pub all_more : {A : Type 0} (p q : A → Bool) → ((x : A) → p x ≡ true → q x ≡ true) → (xs : List A) → list_all p xs ≡ true → list_all q xs ≡ true
all_more p q more [] m = refl
all_more p q more (x ∷ xs) m =
    both_hold (q x) (list_all q xs) (more x (first_of_both (p x) (list_all p xs) m)) (all_more p q more xs (second_of_both (p x) (list_all p xs) m))

-- Where each callee that is such is so too

module _ (such so : Callee → Bool) (more : (c : Callee) → such c ≡ true → so c ≡ true) where
  mutual
    expression_more : (e : Expression) → expression_calls such e ≡ true → expression_calls so e ≡ true
    expression_more (literal n) m = refl
    expression_more (variable slot) m = refl
    expression_more (component index) m = refl
    expression_more (prefixed op e) m = expression_more e m
    expression_more (chain e ls) m =
        both_hold (expression_calls so e) (links_call so ls) (expression_more e (first_of_both (expression_calls such e) (links_call such ls) m))
        (links_more ls (second_of_both (expression_calls such e) (links_call such ls) m))
    expression_more (within range e) m = expression_more e m
    expression_more (call c es) m =
        both_hold (so c) (expressions_call so es) (more c (first_of_both (such c) (expressions_call such es) m))
        (expressions_more es (second_of_both (such c) (expressions_call such es) m))

    expressions_more : (es : Expressions) → expressions_call such es ≡ true → expressions_call so es ≡ true
    expressions_more no_expressions m = refl
    expressions_more (and_expression e es) m =
        both_hold (expression_calls so e) (expressions_call so es) (expression_more e (first_of_both (expression_calls such e) (expressions_call such es) m))
        (expressions_more es (second_of_both (expression_calls such e) (expressions_call such es) m))

    links_more : (ls : Links) → links_call such ls ≡ true → links_call so ls ≡ true
    links_more no_links m = refl
    links_more (and_link op e ls) m =
        both_hold (expression_calls so e) (links_call so ls) (expression_more e (first_of_both (expression_calls such e) (links_call such ls) m))
        (links_more ls (second_of_both (expression_calls such e) (links_call such ls) m))

  mutual
    statement_more : (s : Statement) → statement_calls such s ≡ true → statement_calls so s ≡ true
    statement_more null_statement m = refl
    statement_more (assign target e) m = expression_more e m
    statement_more (choice bs otherwise) m =
        both_hold (branches_call so bs) (statements_call so otherwise) (branches_more bs (first_of_both (branches_call such bs) (statements_call such otherwise) m))
        (statements_more otherwise (second_of_both (branches_call such bs) (statements_call such otherwise) m))
    statement_more (selection e others) m =
        both_hold (expression_calls so e) (alternatives_call so others) (expression_more e (first_of_both (expression_calls such e) (alternatives_call such others) m))
        (alternatives_more others (second_of_both (expression_calls such e) (alternatives_call such others) m))
    statement_more (while_loop e ss) m =
        both_hold (expression_calls so e) (statements_call so ss) (expression_more e (first_of_both (expression_calls such e) (statements_call such ss) m))
        (statements_more ss (second_of_both (expression_calls such e) (statements_call such ss) m))
    statement_more (for_loop parameter is_reverse range low high ss) m =
        let bounds = first_of_both (expression_calls such low && expression_calls such high) (statements_call such ss) m in
        both_hold (expression_calls so low && expression_calls so high) (statements_call so ss)
        (both_hold (expression_calls so low) (expression_calls so high) (expression_more low (first_of_both (expression_calls such low) (expression_calls such high) bounds))
        (expression_more high (second_of_both (expression_calls such low) (expression_calls such high) bounds)))
        (statements_more ss (second_of_both (expression_calls such low && expression_calls such high) (statements_call such ss) m))
    statement_more (exit_when e) m = expression_more e m
    statement_more returns m = refl
    statement_more (returns_value e) m = expression_more e m
    statement_more (raises exception) m = refl
    statement_more reraises m = refl
    statement_more (calls c es targets) m =
        both_hold (so c) (expressions_call so es) (more c (first_of_both (such c) (expressions_call such es) m))
        (expressions_more es (second_of_both (such c) (expressions_call such es) m))

    statements_more : (ss : Statements) → statements_call such ss ≡ true → statements_call so ss ≡ true
    statements_more no_statements m = refl
    statements_more (and_statement s ss) m =
        both_hold (statement_calls so s) (statements_call so ss) (statement_more s (first_of_both (statement_calls such s) (statements_call such ss) m))
        (statements_more ss (second_of_both (statement_calls such s) (statements_call such ss) m))

    branches_more : (bs : Branches) → branches_call such bs ≡ true → branches_call so bs ≡ true
    branches_more no_branches m = refl
    branches_more (and_branch e ss bs) m =
        let here = first_of_both (expression_calls such e && statements_call such ss) (branches_call such bs) m in
        both_hold (expression_calls so e && statements_call so ss) (branches_call so bs)
        (both_hold (expression_calls so e) (statements_call so ss) (expression_more e (first_of_both (expression_calls such e) (statements_call such ss) here))
        (statements_more ss (second_of_both (expression_calls such e) (statements_call such ss) here)))
        (branches_more bs (second_of_both (expression_calls such e && statements_call such ss) (branches_call such bs) m))

    alternatives_more : (others : Alternatives) → alternatives_call such others ≡ true → alternatives_call so others ≡ true
    alternatives_more no_alternatives m = refl
    alternatives_more (and_alternative choices ss others) m =
        both_hold (statements_call so ss) (alternatives_call so others) (statements_more ss (first_of_both (statements_call such ss) (alternatives_call such others) m))
        (alternatives_more others (second_of_both (statements_call such ss) (alternatives_call such others) m))

  body_more : (b : Body) → body_calls such b ≡ true → body_calls so b ≡ true
  body_more b m =
      let behind = second_of_both (list_all (declaration_calls such) b.declarations) (statements_call such b.statements && list_all (handler_calls such) b.handlers) m in
      both_hold (list_all (declaration_calls so) b.declarations) (statements_call so b.statements && list_all (handler_calls so) b.handlers)
      (all_more (declaration_calls such) (declaration_calls so) (λ d e. expression_more d.initial e) b.declarations
      (first_of_both (list_all (declaration_calls such) b.declarations) (statements_call such b.statements && list_all (handler_calls such) b.handlers) m))
      (both_hold (statements_call so b.statements) (list_all (handler_calls so) b.handlers)
      (statements_more b.statements (first_of_both (statements_call such b.statements) (list_all (handler_calls such) b.handlers) behind))
      (all_more (handler_calls such) (handler_calls so) (λ h e. statements_more h.statements e) b.handlers
      (second_of_both (statements_call such b.statements) (list_all (handler_calls such) b.handlers) behind)))

  task_more : (o : Option Body) → task_calls such o ≡ true → task_calls so o ≡ true
  task_more None m = refl
  task_more (Some b) m = body_more b m

objects_more : (such so : Callee → Bool) → ((c : Callee) → such c ≡ true → so c ≡ true) → (number : ℕ) (objects : List (List Body)) → objects_call such number objects ≡ true → objects_call so number objects ≡ true
objects_more such so more number [] m = refl
objects_more such so more number (bodies ∷ objects) m =
    both_hold (object_calls (such_in so number) bodies) (objects_call so (number + 1) objects)
    (all_more (body_calls (such_in such number)) (body_calls (such_in so number)) (body_more (such_in such number) (such_in so number) (λ c. more (of_object number c))) bodies
    (first_of_both (object_calls (such_in such number) bodies) (objects_call such (number + 1) objects) m))
    (objects_more such so more (number + 1) objects (second_of_both (object_calls (such_in such number) bodies) (objects_call such (number + 1) objects) m))

every_more : (such so : Callee → Bool) → ((c : Callee) → such c ≡ true → so c ≡ true) → (bodies : UnitBodies) → every_call such bodies ≡ true → every_call so bodies ≡ true
every_more such so more bodies m =
    both_hold (objects_call so 1 bodies.objects) (list_all (task_calls (such_in so 0)) bodies.tasks)
    (objects_more such so more 1 bodies.objects (first_of_both (objects_call such 1 bodies.objects) (list_all (task_calls (such_in such 0)) bodies.tasks) m))
    (all_more (task_calls (such_in such 0)) (task_calls (such_in so 0)) (task_more (such_in such 0) (such_in so 0) (λ c. more (of_object 0 c))) bodies.tasks
    (second_of_both (objects_call such 1 bodies.objects) (list_all (task_calls (such_in such 0)) bodies.tasks) m))

-- What is called keeps its number

false_is_true : {X : Type 0} → false ≡ true → X
false_is_true e = absurd (cc e)

target_keeps : (P : Target → Bool) → P Nowhere ≡ false → (old more : List Shape) (o n : ℕ) → P (target old o n) ≡ true → P (target (old ++ more) o n) ≡ true
target_keeps P none old more o n e = by_place (place old o) refl where
  by_place : (at : Option UnitObject) → place old o ≡ at → P (target (old ++ more) o n) ≡ true
  by_place None is = false_is_true (sym none ∙ (ap (λ (q : Option UnitObject). P (at_unit_object n q)) (sym is) ∙ e))
  by_place (Some at) is = ap P (target_stays old more o n at is) ∙ e

suspension_keeps : (old more : List Shape) (o : ℕ) → is_suspension (place old o) ≡ true → is_suspension (place (old ++ more) o) ≡ true
suspension_keeps old more o e = by_place (place old o) refl where
  by_place : (at : Option UnitObject) → place old o ≡ at → is_suspension (place (old ++ more) o) ≡ true
  by_place None is = false_is_true (ap is_suspension (sym is) ∙ e)
  by_place (Some at) is = ap is_suspension (object_stays old more o at is ∙ sym is) ∙ e

pub callee_keeps : (old more : List Shape) (c : Callee) → callee_fits old c ≡ true → callee_fits (old ++ more) c ≡ true
callee_keeps old more (callee.Internal operation) e = refl
callee_keeps old more (callee.OwnEntry operation) e = absurd (cc e)
callee_keeps old more (callee.Function object operation) e = target_keeps calls_function refl old more object operation e
callee_keeps old more (callee.Procedure object operation) e = target_keeps calls_procedure refl old more object operation e
callee_keeps old more (callee.Entry object operation) e = target_keeps calls_entry refl old more object operation e
callee_keeps old more (callee.SetTrue object) e = suspension_keeps old more object e
callee_keeps old more (callee.SetFalse object) e = suspension_keeps old more object e
callee_keeps old more (callee.CurrentState object) e = suspension_keeps old more object e
callee_keeps old more (callee.SuspendUntilTrue object) e = suspension_keeps old more object e
callee_keeps old more callee.DelayUntil e = refl
callee_keeps old more callee.Clock e = refl

pub calls_keep : (old more : List Shape) (bodies : UnitBodies) → calls_fit old bodies ≡ true → calls_fit (old ++ more) bodies ≡ true
calls_keep old more bodies e = every_more (callee_fits old) (callee_fits (old ++ more)) (callee_keeps old more) bodies e

-- A unit without bodies calls nothing

all_alike : {A : Type 0} (p : A → Bool) (x : A) (n : ℕ) → p x ≡ true → list_all p (replicate n x) ≡ true
all_alike p x zero e = refl
all_alike p x (suc n) e = both_hold (p x) (list_all p (replicate n x)) e (all_alike p x n e)

pub none_call : (such : Callee → Bool) (number count : ℕ) → objects_call such number (replicate count []) ≡ true
none_call such number zero = refl
none_call such number (suc count) = none_call such (number + 1) count

pub alone_calls : (such : Callee → Bool) (number : ℕ) (shape : Shape) → calls_from such number (without_bodies shape) ≡ true
alone_calls such number shape =
    both_hold (objects_call such number (replicate (length shape.objects) [])) (list_all (task_calls (such_in such 0)) (replicate (length shape.tasks) None))
    (none_call such number (length shape.objects)) (all_alike (task_calls (such_in such 0)) None (length shape.tasks) refl)

pub alone_fits : (shapes : List Shape) (shape : Shape) → calls_fit shapes (without_bodies shape) ≡ true
alone_fits shapes shape = alone_calls (callee_fits shapes) 1 shape
