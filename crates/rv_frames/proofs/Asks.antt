-- The run asks, and goes on by the answer.
use Rattle.std.proofs.Common.{◌≡◌, refl, ap, ℕ, ℤ, List, [], true, false, Some, None, Err}
use Rattle.rv_event.specs.declared.entry.Answer.{Answer}
use Rattle.rv_event.specs.declared.entry.Answer.TheVariants as answers
use Rattle.rv_code.specs.Bodies.{UnitBodies}
use Rattle.rv_exec.specs.declared.setting.Setting.{Setting}
use Rattle.rv_exec.specs.declared.end.Cause.TheVariants as cause
use Rattle.rv_exec.specs.Asking.{ended, and_then}
use Rattle.rv_exec.specs.Blocks.{inner_at, outer_at}
use Rattle.rv_exec.specs.Calls.{completes}
use Rattle.rv_exec.specs.Tasks as tasks
use Rattle.rv_frames.specs.Frames.{Frame, denoted, meant}
use Rattle.rv_frames.specs.Asks.{RunsAsk, QuestionsKeepTheMeaning, starts_with}
use Rattle.rv_frames.proofs.Asking.{associative}

answer_starts : (bodies : UnitBodies) (object operation : ℕ) (answer : Answer) (components : List ℤ)
    → starts_with answer ≡ Some components
    → tasks.fired bodies object operation answer ≡ and_then (inner_at bodies object (outer_at bodies 15) 65 operation [] components 100000) (completes false)
answer_starts bodies object operation (answers.Started given) components is =
    let e : given ≡ components = cc is in
    ap (λ (c : List ℤ). and_then (inner_at bodies object (outer_at bodies 15) 65 operation [] c 100000) (completes false)) e
answer_starts bodies object operation answers.Queued components is = absurd (cc is)
answer_starts bodies object operation (answers.Refused rule line version) components is = absurd (cc is)
answer_starts bodies object operation (answers.Done next) components is = absurd (cc is)
answer_starts bodies object operation answers.Suspended components is = absurd (cc is)
answer_starts bodies object operation answers.Delayed components is = absurd (cc is)
answer_starts bodies object operation (answers.Woken given) components is = absurd (cc is)
answer_starts bodies object operation (answers.Accepted value) components is = absurd (cc is)
answer_starts bodies object operation answers.Misuse components is = absurd (cc is)
answer_starts bodies object operation answers.Halted components is = absurd (cc is)
answer_starts bodies object operation answers.Full components is = absurd (cc is)
answer_starts bodies object operation answers.Busy components is = absurd (cc is)
answer_starts bodies object operation answers.Waiting components is = absurd (cc is)
answer_starts bodies object operation answers.Unattached components is = absurd (cc is)
answer_starts bodies object operation answers.BadLine components is = absurd (cc is)
answer_starts bodies object operation answers.OutOfMemory components is = absurd (cc is)

leads_nowhere : (bodies : UnitBodies) (object operation : ℕ) (answer : Answer)
    → starts_with answer ≡ None → tasks.fired bodies object operation answer ≡ ended (Err (cause.Stopped true))
leads_nowhere bodies object operation (answers.Started given) is = absurd (cc is)
leads_nowhere bodies object operation answers.Queued is = refl
leads_nowhere bodies object operation (answers.Refused rule line version) is = refl
leads_nowhere bodies object operation (answers.Done next) is = refl
leads_nowhere bodies object operation answers.Suspended is = refl
leads_nowhere bodies object operation answers.Delayed is = refl
leads_nowhere bodies object operation (answers.Woken given) is = refl
leads_nowhere bodies object operation (answers.Accepted value) is = refl
leads_nowhere bodies object operation answers.Misuse is = refl
leads_nowhere bodies object operation answers.Halted is = refl
leads_nowhere bodies object operation answers.Full is = refl
leads_nowhere bodies object operation answers.Busy is = refl
leads_nowhere bodies object operation answers.Waiting is = refl
leads_nowhere bodies object operation answers.Unattached is = refl
leads_nowhere bodies object operation answers.BadLine is = refl
leads_nowhere bodies object operation answers.OutOfMemory is = refl

pub runs_ask : (bodies : UnitBodies) (fs : List Frame) (s : Setting) → RunsAsk bodies fs s
unfolding meant denoted
runs_ask bodies fs s = record {
  resume = λ callee. refl;
  stuck = λ request outcome is. rw is refl;
  quit = λ outcome is. rw is refl;
  left = λ outcome is. rw is refl;
  fire = λ object operation. refl;
  starts = λ object operation answer components is. rw (answer_starts bodies object operation answer components is) (associative (inner_at bodies object (outer_at bodies 15) 65 operation [] components 100000) _ _);
  starts_nothing = λ object operation answer is. rw (leads_nowhere bodies object operation answer is) refl;
}

pub questions_keep_the_meaning : QuestionsKeepTheMeaning
questions_keep_the_meaning = runs_ask
