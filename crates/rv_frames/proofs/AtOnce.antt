-- The run comes to something at once, and the meaning stays.
use Rattle.std.proofs.Common.{◌≡◌, refl, ap, ◌∙◌, ℕ, suc, ℤ, pos, List, ◌∷◌, replicate, true, Some, None, Err}
use Rattle.std.proofs.Math.Path.{fun_ext}
use Rattle.rv_code.specs.declared.expression.Callee.{Callee}
use Rattle.rv_code.specs.Bodies.{Body, UnitBodies}
use Rattle.rv_exec.specs.declared.activation.Activation.{Activation}
use Rattle.rv_exec.specs.declared.setting.Setting.{Setting}
use Rattle.rv_event.specs.declared.entry.Exception.TheVariants.{ProgramError}
use Rattle.rv_exec.specs.declared.end.Cause.TheVariants as cause
use Rattle.rv_exec.specs.Asking.{Asking, and_then}
use Rattle.rv_exec.specs.Activations.{opened, bound}
use Rattle.rv_exec.specs.Bodies.{operation_of}
use Rattle.rv_exec.specs.Calls.{reached, is_past}
use Rattle.rv_exec.specs.Statements.{step, turns, values_over, meaning, meanings, selected}
use Rattle.rv_exec.specs.Blocks.{elaborated, block, body_meaning, inner_at, outer_at, closed, world}
use Rattle.rv_frames.specs.Frames.{Frame, Now, declares, enters, comes, opening, closing, answering, outside, close, out, inner_setting, denoted, meant}
use Rattle.rv_frames.specs.AtOnce.{StatementsAtOnce, CallsAtOnce, ComesAtOnce}
use Rattle.rv_frames.proofs.Asking.{associative}
use Rattle.rv_frames.proofs.Pushes.{external_spent, outer_as}

pub statements_at_once : (bodies : UnitBodies) (fs : List Frame) (s : Setting) → StatementsAtOnce bodies fs s
unfolding meant denoted step turns values_over meaning meanings selected elaborated
statements_at_once bodies fs s = record {
  null = λ a. refl;
  returns = λ a. refl;
  raises = λ exception a. refl;
  reraises = λ a. refl;
  alternative = λ choices ss more v a is. rw is refl;
  next_alternative = λ choices ss more v a is. rw is refl;
  no_alternative = λ v a. refl;
  no_turn = λ e ss a. refl;
  no_value = λ is_reverse low high slot ss a. refl;
  value_overruns = λ n is_reverse low high slot ss a is. rw is refl;
  no_declaration = λ a. refl;
}

past : (bodies : UnitBodies) (fs : List Frame) (s : Setting) (callee : Callee) (values : List ℤ) (b : Activation)
    → is_past s.held callee ≡ true
    → and_then (outer_at bodies s.held callee values) (out (denoted bodies (answering b ∷ fs) s))
    ≡ meant bodies (comes (outside (Err (cause.Raised ProgramError)))) (answering b ∷ fs) s
unfolding meant reached
past bodies fs s callee values b beyond =
    ap (λ x. and_then x (out (denoted bodies (answering b ∷ fs) s))) (outer_as bodies s.held callee values)
    ∙ rw beyond refl

begins :
    (bodies : UnitBodies) (fs : List Frame) (s : Setting) (operation : ℕ) (values components : List ℤ) (steps nested : ℕ) (body : Body)
    → s.nested ≡ suc nested → operation_of bodies s.object operation ≡ Some body
    → ((now : Now) → denoted bodies fs s now ≡ denoted bodies fs (inner_setting s nested) now)
    → meant bodies (enters operation values components steps) fs s
    ≡ meant bodies (declares body.declarations (opened (bound body.parameters 0 0 values (replicate 132 (pos 0))) components steps 0))
    (opening body.statements body.handlers ∷ closing body ∷ fs) (inner_setting s nested)
unfolding meant denoted inner_at body_meaning block
begins bodies fs s operation values components steps nested body deeper is free =
    let a : Activation = opened (bound body.parameters 0 0 values (replicate 132 (pos 0))) components steps 0 in
    let one : inner_at bodies s.object (outer_at bodies s.held) s.nested operation values components steps ≡ and_then (block (world bodies (inner_setting s nested)) body a) (closed body) =
    ap (λ k. inner_at bodies s.object (outer_at bodies s.held) k operation values components steps) deeper ∙ ap (λ o. body_meaning (world bodies (inner_setting s nested)) o values components steps) is in
    ap (λ x. and_then x (close (denoted bodies fs s))) one
    ∙ (ap (λ (d : Now → Asking Now). and_then (and_then (block (world bodies (inner_setting s nested)) body a) (closed body)) (close d)) (fun_ext free)
    ∙ (associative (block (world bodies (inner_setting s nested)) body a) _ _
    ∙ associative (elaborated (world bodies (inner_setting s nested)) body.declarations a) _ _))

pub calls_at_once : (bodies : UnitBodies) (fs : List Frame) (s : Setting) → CallsAtOnce bodies fs s
unfolding meant denoted inner_at body_meaning
calls_at_once bodies fs s = record {
  past_limit = λ callee at values a b other is here beyond. external_spent bodies fs s callee at values a b other is here ∙ past bodies fs s at values b beyond;
  too_deep = λ operation values components steps is. rw is refl;
  no_body = λ operation values components steps nested deeper is. rw deeper (rw is refl);
  body = begins bodies fs s;
}

pub comes_at_once : ComesAtOnce
comes_at_once bodies fs s = (statements_at_once bodies fs s, calls_at_once bodies fs s)
