-- What waits is pushed, and the meaning stays.
use Rattle.std.proofs.Common.{◌≡◌, refl, sym, ap, ◌∙◌, ℕ, zero, suc, ℤ, List, [], ◌∷◌, false, Some, None}
use Rattle.rv_code.specs.Callees.{of_object}
use Rattle.rv_code.specs.declared.expression.Callee.{Callee}
use Rattle.rv_code.specs.declared.expression.Callee.TheVariants as callee
use Rattle.rv_code.specs.Bodies.{Body, UnitBodies}
use Rattle.rv_exec.specs.declared.activation.Activation.{Activation}
use Rattle.rv_exec.specs.declared.setting.Setting.{Setting}
use Rattle.rv_exec.specs.Asking.{and_then}
use Rattle.rv_exec.specs.Activations.{spent, put_slot, value_before}
use Rattle.rv_exec.specs.Bodies.{operation_of}
use Rattle.rv_exec.specs.Calls.{internal, reached, asks, is_past}
use Rattle.rv_exec.specs.Expressions.{value, linked, arguments, called, passing, returned}
use Rattle.rv_exec.specs.Statements.{step, turns, values_over, meaning, meanings, first_true}
use Rattle.rv_exec.specs.Blocks.{elaborated, block, body_meaning, inner_at, outer_at, closed, performed, world}
use Rattle.rv_frames.specs.Frames.{Frame, calls, declares, asks_of, opening, closing, resuming, answering, performing, all, out, begun, inner_setting, started_by, denoted, meant}
use Rattle.rv_frames.specs.Pushes.{ExpressionsPush, StatementsPush, CallsPush, PushesKeepTheMeaning}
use Rattle.rv_frames.proofs.Asking.{associative}

-- a call inside the object: its body starts
internal_enters :
    (bodies : UnitBodies) (fs : List Frame) (s : Setting) (operation : ℕ) (values : List ℤ) (a : Activation) (nested : ℕ) (body : Body)
    → s.nested ≡ suc nested → operation_of bodies s.object operation ≡ Some body
    → meant bodies (calls (callee.Internal operation) values a) fs s
    ≡ meant bodies (declares body.declarations (begun body values a)) (opening body.statements body.handlers ∷ closing body ∷ resuming s a ∷ fs) (inner_setting s nested)
unfolding meant denoted called inner_at body_meaning block
internal_enters bodies fs s operation values a nested body deeper is =
    let one : inner_at bodies s.object (outer_at bodies s.held) s.nested operation values a.components a.steps ≡ and_then (block (world bodies (inner_setting s nested)) body (begun body values a)) (closed body) =
    ap (λ k. inner_at bodies s.object (outer_at bodies s.held) k operation values a.components a.steps) deeper ∙ ap (λ o. body_meaning (world bodies (inner_setting s nested)) o values a.components a.steps) is in
    associative (inner_at bodies s.object (outer_at bodies s.held) s.nested operation values a.components a.steps) _ _
    ∙ (ap (λ x. and_then x (λ o. and_then (returned a o) (all (denoted bodies fs s)))) one
    ∙ (associative (block (world bodies (inner_setting s nested)) body (begun body values a)) _ _
    ∙ associative (elaborated (world bodies (inner_setting s nested)) body.declarations (begun body values a)) _ _))

pub external_spent :
    (bodies : UnitBodies) (fs : List Frame) (s : Setting) (callee at : Callee) (values : List ℤ) (a b : Activation)
    → internal callee ≡ None → spent s.is_task a ≡ Some b → at ≡ of_object s.object callee
    → meant bodies (calls callee values a) fs s ≡ and_then (outer_at bodies s.held at values) (out (denoted bodies (answering b ∷ fs) s))
unfolding meant denoted called
external_spent bodies fs s callee at values a b other is here =
    rw other (rw is (associative (outer_at bodies s.held (of_object s.object callee) values) _ _))
    ∙ ap (λ (c : Callee). and_then (outer_at bodies s.held c values) (out (denoted bodies (answering b ∷ fs) s))) (sym here)

-- the outside of an actor that may hold so many more
pub outer_as :
    (bodies : UnitBodies) (held : ℕ) (callee : Callee) (values : List ℤ)
    → outer_at bodies held callee values ≡ and_then (reached held callee values) (performed (started_by bodies held values))
unfolding outer_at
outer_as bodies zero callee values = refl
outer_as bodies (suc held) callee values = refl

external_down :
    (bodies : UnitBodies) (fs : List Frame) (s : Setting) (callee at : Callee) (values : List ℤ) (a b : Activation)
    → internal callee ≡ None → spent s.is_task a ≡ Some b → at ≡ of_object s.object callee → is_past s.held at ≡ false
    → meant bodies (calls callee values a) fs s ≡ meant bodies (asks_of at values) (performing s.held values ∷ answering b ∷ fs) s
unfolding meant denoted called reached
external_down bodies fs s callee at values a b other is here within =
    external_spent bodies fs s callee at values a b other is here
    ∙ (ap (λ x. and_then x (out (denoted bodies (answering b ∷ fs) s))) (outer_as bodies s.held at values)
    ∙ rw within (associative (asks at values) _ _))

pub expressions_push : (bodies : UnitBodies) (fs : List Frame) (s : Setting) → ExpressionsPush bodies fs s
unfolding meant denoted value linked arguments
expressions_push bodies fs s = record {
  prefix = λ op e a. associative (value (world bodies s) e a) _ _;
  chain = λ e ls a. associative (value (world bodies s) e a) _ _;
  link = λ op e ls v a no. rw no (associative (value (world bodies s) e a) _ _);
  skipped = λ op e ls v a yes. rw yes refl;
  bounds = λ range e a. associative (value (world bodies s) e a) _ _;
  call = λ callee es a. associative (passing (world bodies s) callee (arguments (world bodies s) es [] a)) _ _ ∙ associative (arguments (world bodies s) es [] a) _ _;
  argument = λ e es values a. associative (value (world bodies s) e a) _ _;
}

pub statements_push : (bodies : UnitBodies) (fs : List Frame) (s : Setting) → StatementsPush bodies fs s
unfolding meant denoted meaning first_true turns values_over step meanings
statements_push bodies fs s = record {
  assignment = λ target e a. associative (value (world bodies s) e a) _ _;
  choice = λ bs otherwise a. refl;
  branch = λ e ss otherwise bs a. associative (value (world bodies s) e a) _ _;
  selection = λ e more a. associative (value (world bodies s) e a) _ _;
  while_loop = λ e ss a. refl;
  turn = λ n e ss a. associative (value (world bodies s) e a) _ _;
  for_loop = λ slot is_reverse range low high ss a. associative (value (world bodies s) low a) _ _;
  counted = λ n is_reverse low high slot ss a b is. rw is (associative (meanings (world bodies s) ss (put_slot slot (value_before is_reverse low high n) b)) _ _);
  exit_when = λ e a. associative (value (world bodies s) e a) _ _;
  return_value = λ e a. associative (value (world bodies s) e a) _ _;
  call = λ callee es targets a. associative (passing (world bodies s) callee (arguments (world bodies s) es [] a)) _ _ ∙ associative (arguments (world bodies s) es [] a) _ _;
  next_statement = λ x ss a b is. rw is (associative (meaning (world bodies s) x b) _ _);
  overrun = λ x ss a is. rw is refl;
}

pub calls_push : (bodies : UnitBodies) (fs : List Frame) (s : Setting) → CallsPush bodies fs s
unfolding meant denoted elaborated called
calls_push bodies fs s = record {
  declaration = λ d ds a. associative (value (world bodies s) d.initial a) _ _;
  inner_call = λ operation values a. associative (inner_at bodies s.object (outer_at bodies s.held) s.nested operation values a.components a.steps) _ _;
  inner_body = internal_enters bodies fs s;
  outer_call = external_down bodies fs s;
  no_request_left = λ callee values a other is. rw other (rw is refl);
}

pub pushes_keep_the_meaning : PushesKeepTheMeaning
pushes_keep_the_meaning bodies fs s = (expressions_push bodies fs s, statements_push bodies fs s, calls_push bodies fs s)
