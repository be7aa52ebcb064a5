-- Where the run asks, and where its answer leads, what it still does stays (own).
use Rattle.std.specs.Prelude.{◌≡◌, ℕ, ℤ, true, false, List, [], ◌∷◌, Option, Some, None, Err}
use Rattle.rv_event.specs.declared.entry.Answer.{Answer}
use Rattle.rv_event.specs.declared.entry.Answer.TheVariants as answers
use Rattle.rv_event.specs.declared.entry.Request.{Request}
use Rattle.rv_event.specs.declared.entry.Request.TheVariants as requests
use Rattle.rv_code.specs.declared.expression.Callee.{Callee}
use Rattle.rv_code.specs.Bodies.{UnitBodies}
use Rattle.rv_exec.specs.declared.setting.Setting.{Setting}
use Rattle.rv_exec.specs.declared.end.Cause.TheVariants as cause
use Rattle.rv_exec.specs.Asking.{asking, and_then}
use Rattle.rv_exec.specs.Calls.{Outcome, is_stuck, exit_of, resumed}
use Rattle.rv_exec.specs.Tasks.{fired}
use Rattle.rv_frames.specs.Frames.{Frame, completing, reaches, outside, quitted, waits, ends_of, quits_of, fires, enters, comes, body_setting, out, denoted, meant}

-- the components that a body starts with, where the answer starts one (9.5.1)
abbrev pub starts_with : Answer → Option (List ℤ)
starts_with (answers.Started components) = Some components
starts_with other = None

-- resumes, ends of bodies and of tasks, and lines that fire (9.3, 9.5.1, 9.5.3, C.3)
pub record RunsAsk (bodies : UnitBodies) (fs : List Frame) (s : Setting) : Type 0 where
  -- an actor that waits resumes
  pub resume :
      (callee : Callee)
      → meant bodies (waits callee) fs s
      ≡ asking requests.Resume (λ answer. meant bodies (comes (reaches (resumed callee answer))) fs s)
  -- the end of a body isn't asked where its actor is left waiting, or in a body that it called
  pub stuck :
      (request : Request) (outcome : Outcome)
      → is_stuck outcome ≡ true
      → meant bodies (ends_of request outcome) fs s
      ≡ meant bodies (comes (outside outcome)) fs s
  -- a task quits, or it is left so
  pub quit :
      (outcome : Outcome)
      → is_stuck outcome ≡ false
      → meant bodies (quits_of outcome) fs s
      ≡ asking requests.Quit (λ answer. meant bodies (comes (quitted (exit_of outcome))) fs s)
  pub left :
      (outcome : Outcome)
      → is_stuck outcome ≡ true
      → meant bodies (quits_of outcome) fs s
      ≡ meant bodies (comes (quitted (exit_of outcome))) fs s
  -- a line fires; the body of its handler starts, or not
  pub fire :
      (object operation : ℕ)
      → meant bodies (fires object operation) fs s
      ≡ asking requests.Fire (λ answer. and_then (fired bodies object operation answer) (out (denoted bodies fs s)))
  pub starts :
      (object operation : ℕ) (answer : Answer) (components : List ℤ)
      → starts_with answer ≡ Some components
      → and_then (fired bodies object operation answer) (out (denoted bodies fs s))
      ≡ meant bodies (enters operation [] components 100000) (completing false s ∷ fs) (body_setting object 15)
  pub starts_nothing :
      (object operation : ℕ) (answer : Answer)
      → starts_with answer ≡ None
      → and_then (fired bodies object operation answer) (out (denoted bodies fs s))
      ≡ meant bodies (comes (outside (Err (cause.Stopped true)))) fs s

abbrev pub QuestionsKeepTheMeaning : Type 0
QuestionsKeepTheMeaning = (bodies : UnitBodies) (fs : List Frame) (s : Setting) → RunsAsk bodies fs s
