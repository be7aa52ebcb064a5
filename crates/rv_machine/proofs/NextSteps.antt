-- What a machine asks, how it ends, and where an answer leads.
use Rattle.std.proofs.Common.{◌≡◌, ◌<◌, refl, sym, ap, subst, ◌∙◌, arith, ℕ, ℤ, List, [], ◌∷◌, Bool, true, false, cond, Some, None, Err}
use Rattle.rv_event.specs.declared.entry.Answer.{Answer}
use Rattle.rv_event.specs.declared.entry.Answer.TheVariants as answers
use Rattle.rv_event.specs.declared.entry.Exit.{Exit}
use Rattle.rv_event.specs.declared.entry.Request.{Request}
use Rattle.rv_event.specs.declared.entry.Request.TheVariants as requests
use Rattle.rv_code.specs.declared.expression.Callee.{Callee}
use Rattle.rv_exec.specs.declared.activation.Activation.{Activation}
use Rattle.rv_exec.specs.declared.setting.Setting.{Setting}
use Rattle.rv_exec.specs.declared.end.Asked.{Asked}
use Rattle.rv_exec.specs.declared.end.Asked.TheVariants as reached
use Rattle.rv_exec.specs.declared.end.Reply.TheVariants as reply
use Rattle.rv_exec.specs.declared.end.Cause.TheVariants as cause
use Rattle.rv_exec.specs.Asking.{Asking, asking, and_then}
use Rattle.rv_exec.specs.Calls.{Outcome, is_stuck, end_of, exit_of, request_of, replied, resumed, completed, settled}
use Rattle.rv_flat.specs.declared.unit.FlatUnit.{FlatUnit}
use Rattle.rv_flat.specs.FlatUnits.{flat_view}
use Rattle.rv_flat.specs.Tables.{trees}
use Rattle.rv_exec.specs.Tasks.{fired}
use Rattle.rv_frames.specs.Asks.{starts_with}
use Rattle.rv_frames.specs.Frames as f
use Rattle.rv_frames.specs.Frames.{Frame, Now, Control, asks_of, waits, ends_of, quits_of, fires, enters, comes, reaches, outside, quitted, completing, body_setting, reach, out, denoted, meant}
use Rattle.rv_frames.proofs.Arrivals.{calls_arrive}
use Rattle.rv_frames.proofs.Asks.{runs_ask}
use Rattle.rv_frames.proofs.Rests.{calls_rest}
use Rattle.rv_machine.proofs.CallSteps.{apart_completing}
use Rattle.rv_machine.specs.declared.machine.Machine.{Machine}
use Rattle.rv_machine.specs.declared.next.Final.{Final}
use Rattle.rv_machine.specs.declared.point.Point.{Point}
use Rattle.rv_machine.specs.declared.point.Point.TheVariants as point
use Rattle.rv_machine.specs.declared.point.Step.TheVariants as step
use Rattle.rv_machine.specs.declared.stack.Stack.{Stack}
use Rattle.rv_machine.specs.Machines.{stands, left, high, MovesTo, question, is_coming, answered, final_at, final_of, AsksNow, EndsNow, IsAnswered}
use Rattle.rv_machine.specs.Heights.{highest}
use Rattle.rv_machine.specs.Moves.{moves_left}
use Rattle.rv_machine.specs.Points.{control, given_by, MovesOn, Apart}
use Rattle.rv_machine.specs.Stacks.{below}

-- a test that leaves nothing, and one that leaves something
test_none : {A : Type 0} (b : Bool) (x : A) → cond b None (Some x) ≡ None → b ≡ true
test_none true x is = refl
test_none false x is = cc

test_some : {A : Type 0} (b : Bool) (x y : A) → cond b None (Some x) ≡ Some y → b ≡ false
test_some true x y is = cc
test_some false x y is = refl

test_same : {A : Type 0} (b : Bool) (x y : A) → cond b None (Some x) ≡ Some y → x ≡ y
test_same true x y is = cc
test_same false x y is = cc

test_asked : {A : Type 0} (b : Bool) (x : A) → (cond b None (Some x) ≡ None → ⊥) → b ≡ false
test_asked true x some = absurd (some refl)
test_asked false x some = refl

pub end_unasked : (u : FlatUnit) (s : Setting) (is_function : Bool) (outcome : Outcome) (a : Activation) (fs : List Frame)
    → question (point.Ends is_function outcome) a ≡ None → MovesOn (flat_view u) (ends_of (end_of is_function outcome a.components) outcome) fs s (comes (outside outcome)) fs s
end_unasked u s is_function outcome a fs is = record {
  same = (runs_ask (flat_view u) fs s).stuck (end_of is_function outcome a.components) outcome (test_none (is_stuck outcome) (end_of is_function outcome a.components) is);
  less = omega arith;
  low = λ one. omega arith;
}

pub task_end_unasked : (u : FlatUnit) (s : Setting) (outcome : Outcome) (a : Activation) (exit : Exit) (fs : List Frame)
    → question (point.Quits outcome) a ≡ None → exit ≡ exit_of outcome → MovesOn (flat_view u) (quits_of outcome) fs s (comes (quitted exit)) fs s
task_end_unasked u s outcome a exit fs is exits =
    subst (λ (x : Exit). MovesOn (flat_view u) (quits_of outcome) fs s (comes (quitted x)) fs s) (sym exits)
    (record { same = (runs_ask (flat_view u) fs s).left outcome (test_none (is_stuck outcome) requests.Quit is); less = omega arith; low = λ one. omega arith })

-- what is asked at a point
pub asks_at : (u : FlatUnit) (p : Point) (a : Activation) (fs : List Frame) (s : Setting) (request : Request)
    → question p a ≡ Some request → AsksNow (meant (flat_view u) (control (trees u.code) p a) fs s) request
asks_at u (point.Asks callee values) a fs s request is =
    let same : request_of callee values ≡ request = cc in (
      λ answer. and_then (settled callee (replied callee answer)) (reach (denoted (flat_view u) fs s)),
      (calls_arrive (flat_view u) fs s).ask callee values ∙ ap (λ (r : Request). asking r (λ answer. and_then (settled callee (replied callee answer)) (reach (denoted (flat_view u) fs s)))) same,
    )
asks_at u (point.Waits callee) a fs s request is =
    let same : requests.Resume ≡ request = cc in (
      λ answer. meant (flat_view u) (comes (reaches (resumed callee answer))) fs s,
      (runs_ask (flat_view u) fs s).resume callee ∙ ap (λ (r : Request). asking r (λ answer. meant (flat_view u) (comes (reaches (resumed callee answer))) fs s)) same,
    )
asks_at u (point.Ends is_function outcome) a fs s request is = (
  λ answer. meant (flat_view u) (comes (outside (completed outcome answer))) fs s,
  (calls_arrive (flat_view u) fs s).end (end_of is_function outcome a.components) outcome (test_some (is_stuck outcome) (end_of is_function outcome a.components) request is) ∙ ap (λ (x : Request). asking x (λ answer. meant (flat_view u) (comes (outside (completed outcome answer))) fs s)) (test_same (is_stuck outcome) (end_of is_function outcome a.components) request is),
)
asks_at u (point.Quits outcome) a fs s request is = (
  λ answer. meant (flat_view u) (comes (quitted (exit_of outcome))) fs s,
  (runs_ask (flat_view u) fs s).quit outcome (test_some (is_stuck outcome) requests.Quit request is) ∙ ap (λ (x : Request). asking x (λ answer. meant (flat_view u) (comes (quitted (exit_of outcome))) fs s)) (test_same (is_stuck outcome) requests.Quit request is),
)
asks_at u (point.Fires object operation) a fs s request is =
    let same : requests.Fire ≡ request = cc in (
      λ answer. and_then (fired (flat_view u) object operation answer) (out (denoted (flat_view u) fs s)),
      (runs_ask (flat_view u) fs s).fire object operation ∙ ap (λ (r : Request). asking r (λ answer. and_then (fired (flat_view u) object operation answer) (out (denoted (flat_view u) fs s)))) same,
    )
asks_at u other a fs s request is = absurd (cc is)

-- how it ends where nothing waits
ends_so : (u : FlatUnit) (now : Now) (fs : List Frame) (s : Setting) → fs ≡ [] → EndsNow (meant (flat_view u) (comes now) fs s) (final_of now)
ends_so u now fs s none = (now, ap (λ (gs : List Frame). meant (flat_view u) (comes now) gs s) none ∙ (calls_rest (flat_view u) [] s).over now, refl)

pub ends_at : (u : FlatUnit) (p : Point) (a : Activation) (fs : List Frame) (s : Setting)
    → is_coming p ≡ true → fs ≡ [] → EndsNow (meant (flat_view u) (control (trees u.code) p a) fs s) (final_at p a)
ends_at u (point.At (step.Valued v)) a fs s is none = ends_so u (f.valued v a) fs s none
ends_at u (point.At (step.Listed outcome)) a fs s is none = ends_so u (f.listed outcome a) fs s none
ends_at u (point.At (step.Done e)) a fs s is none = ends_so u (f.done e a) fs s none
ends_at u (point.Closes outcome) a fs s is none = ends_so u (f.closes outcome a.components a.steps) fs s none
ends_at u (point.Reaches outcome) a fs s is none = ends_so u (f.reaches (given_by outcome)) fs s none
ends_at u (point.Starts object operation is_function) a fs s is none = ends_so u (f.reaches (reached.Started object operation is_function a.components)) fs s none
ends_at u (point.Outside outcome) a fs s is none = ends_so u (f.outside outcome) fs s none
ends_at u (point.Exited e) a fs s is none = ends_so u (f.exited e a.components) fs s none
ends_at u (point.Quitted e) a fs s is none = ends_so u (f.quitted e) fs s none
ends_at u other a fs s is none = absurd (cc is)

pub ended_at : (u : FlatUnit) (p : Point) (a : Activation) (fs : List Frame) (s : Setting) (how : Final)
    → is_coming p ≡ true → fs ≡ [] → how ≡ final_at p a → EndsNow (meant (flat_view u) (control (trees u.code) p a) fs s) how
ended_at u p a fs s how is none at = let ends = ends_at u p a fs s is none in (ends.0, ends.1, at ∙ ends.2)

-- where an answer leads
follows : (run : Asking Now) (request : Request) (go : Answer → Asking Now) (answer : Answer) (to : Asking Now)
    → run ≡ asking request go → go answer ≡ to → to ≡ answered run answer
follows run request go answer to asks leads = sym (ap (λ (x : Asking Now). answered x answer) asks ∙ leads)

-- a machine that stands at what a request comes to
stands_at : (u : FlatUnit) (what : Asked) (old new : Machine)
    → control (trees u.code) new.point new.activation ≡ comes (reaches what) → new.stack ≡ old.stack → new.setting ≡ old.setting
    → stands u new ≡ meant (flat_view u) (comes (reaches what)) (below u old.stack) old.setting
stands_at u what old new at stack setting =
    ap (λ (x : Control). meant (flat_view u) x (below u new.stack) new.setting) at
    ∙ (ap (λ (x : Stack). meant (flat_view u) (comes (reaches what)) (below u x) new.setting) stack
    ∙ ap (λ (t : Setting). meant (flat_view u) (comes (reaches what)) (below u old.stack) t) setting)

left_at : (u : FlatUnit) (what : Asked) (old new : Machine)
    → control (trees u.code) new.point new.activation ≡ comes (reaches what) → new.stack ≡ old.stack → new.setting ≡ old.setting
    → left u new ≡ moves_left (flat_view u) (comes (reaches what)) (below u old.stack) old.setting
left_at u what old new at stack setting =
    ap (λ (x : Control). moves_left (flat_view u) x (below u new.stack) new.setting) at
    ∙ (ap (λ (x : Stack). moves_left (flat_view u) (comes (reaches what)) (below u x) new.setting) stack
    ∙ ap (λ (t : Setting). moves_left (flat_view u) (comes (reaches what)) (below u old.stack) t) setting)

high_at : (one : ℕ) (u : FlatUnit) (what : Asked) (old new : Machine)
    → control (trees u.code) new.point new.activation ≡ comes (reaches what) → new.stack ≡ old.stack → new.setting ≡ old.setting
    → high one u new ≡ highest one (flat_view u) (comes (reaches what)) (below u old.stack) old.setting
high_at one u what old new at stack setting =
    ap (λ (x : Control). highest one (flat_view u) x (below u new.stack) new.setting) at
    ∙ (ap (λ (x : Stack). highest one (flat_view u) (comes (reaches what)) (below u x) new.setting) stack
    ∙ ap (λ (t : Setting). highest one (flat_view u) (comes (reaches what)) (below u old.stack) t) setting)

pub call_settled : (u : FlatUnit) (callee : Callee) (values : List ℤ) (old new : Machine) (answer : Answer) (what : Asked)
    → replied callee answer ≡ reply.Settled what
    → control (trees u.code) new.point new.activation ≡ comes (reaches what) → new.stack ≡ old.stack → new.setting ≡ old.setting
    → IsAnswered u (point.Asks callee values) old answer new
call_settled u callee values old new answer what is at stack setting = record {
  follows = follows _ (request_of callee values) (λ reply. and_then (settled callee (replied callee reply)) (reach (denoted (flat_view u) (below u old.stack) old.setting))) answer _
      ((calls_arrive (flat_view u) (below u old.stack) old.setting).ask callee values)
      ((calls_arrive (flat_view u) (below u old.stack) old.setting).ask_settled callee answer what is ∙ sym (stands_at u what old new at stack setting));
  less = let e = left_at u what old new at stack setting in omega (arith, e);
  low = λ one. let e = high_at one u what old new at stack setting in omega (arith, e);
}

pub call_waits : (u : FlatUnit) (callee : Callee) (values : List ℤ) (old : Machine) (answer : Answer)
    → replied callee answer ≡ reply.Waits → IsAnswered u (point.Asks callee values) old answer (record old { point = point.Waits callee })
call_waits u callee values old answer is = record {
  follows = follows _ (request_of callee values) (λ reply. and_then (settled callee (replied callee reply)) (reach (denoted (flat_view u) (below u old.stack) old.setting))) answer _
      ((calls_arrive (flat_view u) (below u old.stack) old.setting).ask callee values)
      ((calls_arrive (flat_view u) (below u old.stack) old.setting).ask_waits callee answer is);
  less = omega arith;
  low = λ one. omega arith;
}

pub wait_over : (u : FlatUnit) (callee : Callee) (old new : Machine) (answer : Answer) (what : Asked)
    → what ≡ resumed callee answer
    → control (trees u.code) new.point new.activation ≡ comes (reaches what) → new.stack ≡ old.stack → new.setting ≡ old.setting
    → IsAnswered u (point.Waits callee) old answer new
wait_over u callee old new answer what is at stack setting = record {
  follows = follows _ requests.Resume (λ reply. meant (flat_view u) (comes (reaches (resumed callee reply))) (below u old.stack) old.setting) answer _
      ((runs_ask (flat_view u) (below u old.stack) old.setting).resume callee)
      (ap (λ (x : Asked). meant (flat_view u) (comes (reaches x)) (below u old.stack) old.setting) (sym is) ∙ sym (stands_at u what old new at stack setting));
  less = let e = left_at u what old new at stack setting in omega (arith, e);
  low = λ one. let e = high_at one u what old new at stack setting in omega (arith, e);
}

pub end_over : (u : FlatUnit) (is_function : Bool) (outcome : Outcome) (old : Machine) (answer : Answer) (to : Outcome)
    → (question (point.Ends is_function outcome) old.activation ≡ None → ⊥) → to ≡ completed outcome answer → IsAnswered u (point.Ends is_function outcome) old answer (record old { point = point.Outside to })
end_over u is_function outcome old answer to asked is = record {
  follows = follows _ (end_of is_function outcome old.activation.components) (λ reply. meant (flat_view u) (comes (outside (completed outcome reply))) (below u old.stack) old.setting) answer _
      ((calls_arrive (flat_view u) (below u old.stack) old.setting).end (end_of is_function outcome old.activation.components) outcome (test_asked (is_stuck outcome) (end_of is_function outcome old.activation.components) asked))
      (ap (λ (x : Outcome). meant (flat_view u) (comes (outside x)) (below u old.stack) old.setting) (sym is));
  less = omega arith;
  low = λ one. omega arith;
}

pub task_end_over : (u : FlatUnit) (outcome : Outcome) (old : Machine) (answer : Answer) (exit : Exit)
    → (question (point.Quits outcome) old.activation ≡ None → ⊥) → exit ≡ exit_of outcome → IsAnswered u (point.Quits outcome) old answer (record old { point = point.Quitted exit })
task_end_over u outcome old answer exit asked is = record {
  follows = follows _ requests.Quit (λ reply. meant (flat_view u) (comes (quitted (exit_of outcome))) (below u old.stack) old.setting) answer _
      ((runs_ask (flat_view u) (below u old.stack) old.setting).quit outcome (test_asked (is_stuck outcome) requests.Quit asked))
      (ap (λ (x : Exit). meant (flat_view u) (comes (quitted x)) (below u old.stack) old.setting) (sym is));
  less = omega arith;
  low = λ one. omega arith;
}

pub line_over : (u : FlatUnit) (object operation : ℕ) (old : Machine) (answer : Answer)
    → starts_with answer ≡ None → IsAnswered u (point.Fires object operation) old answer (record old { point = point.Outside (Err (cause.Stopped true)) })
line_over u object operation old answer is = record {
  follows = follows _ requests.Fire (λ reply. and_then (fired (flat_view u) object operation reply) (out (denoted (flat_view u) (below u old.stack) old.setting))) answer _
      ((runs_ask (flat_view u) (below u old.stack) old.setting).fire object operation)
      ((runs_ask (flat_view u) (below u old.stack) old.setting).starts_nothing object operation answer is);
  less = omega arith;
  low = λ one. omega arith;
}

pub starts_not : (answer : Answer) → ((components : List ℤ) → answer ≡ answers.Started components → ⊥) → starts_with answer ≡ None
starts_not (answers.Started components) not = absurd (not components refl)
starts_not other not = refl

pub line_begins : (u : FlatUnit) (object operation : ℕ) (old new : Machine) (answer : Answer) (components none : List ℤ) (t : Setting) (after : List Frame)
    → answer ≡ answers.Started components → none ≡ [] → t ≡ body_setting object 15 → after ≡ completing false old.setting ∷ below u old.stack
    → (Apart (flat_view u) after → MovesTo u (enters operation none components 100000) after t new)
    → IsAnswered u (point.Fires object operation) old answer new
line_begins u object operation old new answer components none t after is empty at put begun =
    let moves : MovesTo u (enters operation [] components 100000) (completing false old.setting ∷ below u old.stack) (body_setting object 15) new =
    subst (λ (vs : List ℤ). MovesTo u (enters operation vs components 100000) (completing false old.setting ∷ below u old.stack) (body_setting object 15) new) empty
    (subst (λ (z : Setting). MovesTo u (enters operation none components 100000) (completing false old.setting ∷ below u old.stack) z new) at
    (subst (λ (gs : List Frame). Apart (flat_view u) gs → MovesTo u (enters operation none components 100000) gs t new) put begun (apart_completing (flat_view u) false old.setting (below u old.stack)))) in
    record {
      follows = follows _ requests.Fire (λ reply. and_then (fired (flat_view u) object operation reply) (out (denoted (flat_view u) (below u old.stack) old.setting))) answer _
          ((runs_ask (flat_view u) (below u old.stack) old.setting).fire object operation)
          ((runs_ask (flat_view u) (below u old.stack) old.setting).starts object operation answer components (ap (λ (x : Answer). starts_with x) is) ∙ moves.same);
      less = let fewer = moves.less in omega (arith, fewer);
      low = λ one. let lower = moves.low one in omega (arith, lower);
    }

-- the point that is known
pub follows_at : (u : FlatUnit) (p : Point) (old : Machine) (answer : Answer) (new : Machine)
    → old.point ≡ p → IsAnswered u p old answer new → stands u new ≡ answered (stands u old) answer
follows_at u p old answer new is led =
    subst (λ (x : Point). stands u new ≡ answered (meant (flat_view u) (control (trees u.code) x old.activation) (below u old.stack) old.setting) answer) (sym is) led.follows

pub less_at : (u : FlatUnit) (p : Point) (old : Machine) (answer : Answer) (new : Machine)
    → old.point ≡ p → IsAnswered u p old answer new → left u new < left u old
less_at u p old answer new is led =
    subst (λ (x : Point). left u new < moves_left (flat_view u) (control (trees u.code) x old.activation) (below u old.stack) old.setting) (sym is) led.less

pub unasked : (p : Point) (run : Activation)
    → ((callee : Callee) (values : List ℤ) → p ≡ point.Asks callee values → ⊥) → ((callee : Callee) → p ≡ point.Waits callee → ⊥)
    → ((is_function : Bool) (outcome : Outcome) → p ≡ point.Ends is_function outcome → ⊥) → ((outcome : Outcome) → p ≡ point.Quits outcome → ⊥)
    → ((object operation : ℕ) → p ≡ point.Fires object operation → ⊥)
    → question p run ≡ None
unasked (point.Asks callee values) run a b d e g = absurd (a callee values refl)
unasked (point.Waits callee) run a b d e g = absurd (b callee refl)
unasked (point.Ends is_function outcome) run a b d e g = absurd (d is_function outcome refl)
unasked (point.Quits outcome) run a b d e g = absurd (e outcome refl)
unasked (point.Fires object operation) run a b d e g = absurd (g object operation refl)
unasked other run a b d e g = refl
