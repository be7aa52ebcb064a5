-- What a task does (ISO/IEC 8652:2012, 9.2, 9.3; limits own).
use Rattle.std.specs.Prelude.{ℕ, pos, true, false, if◌then◌else◌, [], Option, Some, None, Ok, Err, replicate}
use Rattle.rv_event.specs.declared.entry.Answer.{Answer}
use Rattle.rv_event.specs.declared.entry.Answer.TheVariants as answer
use Rattle.rv_event.specs.declared.entry.Exit.{Exit}
use Rattle.rv_event.specs.declared.entry.Request.TheVariants as request
use Rattle.rv_code.specs.Bodies.{Body, UnitBodies}
use Rattle.rv_exec.specs.declared.activation.Activation.{Activation}
use Rattle.rv_exec.specs.declared.end.Cause.TheVariants as cause
use Rattle.rv_exec.specs.declared.end.End.{End}
use Rattle.rv_exec.specs.declared.setting.Setting.{Setting}
use Rattle.rv_exec.specs.Asking.{Asking, ended, asking, and_then}
use Rattle.rv_exec.specs.Activations.{opened}
use Rattle.rv_exec.specs.Blocks.{block, outcome_of, world, inner_at, outer_at}
use Rattle.rv_exec.specs.Bodies.{task_of}
use Rattle.rv_exec.specs.Calls.{Outcome, exit_of, is_stuck, completes}

-- a task holds nothing at first, and may hold 16 objects
abbrev pub task_setting : Setting
task_setting = record { object = 0; held = 16; nested = 65; is_task = true; handling = None }

-- a task that is left waiting, or in a body, can't quit; each other one quits
abbrev pub quits : Outcome → Asking Exit
quits outcome = if is_stuck outcome then ended (exit_of outcome) else asking request.Quit (λ reply. ended (exit_of outcome))

abbrev pub over : Body → End × Activation → Asking Exit
over body (e, a) = quits (outcome_of body e a)

-- a task's body with so many requests, and its end; a task without a body quits at once
unfoldable pub task_meaning : UnitBodies → Option Body → ℕ → Asking Exit
task_meaning bodies None requests = quits (Ok [])
task_meaning bodies (Some body) requests =
    and_then (block (world bodies task_setting) body (opened (replicate 132 (pos 0)) [] 100000 requests)) (over body)

-- what the task of this actor does, with so many requests
abbrev pub task_run : UnitBodies → ℕ → ℕ → Asking Exit
task_run bodies actor requests = task_meaning bodies (task_of bodies actor) requests

-- a line that fires: behind a start the body of its handler and its end (C.3)
abbrev pub fired : UnitBodies → ℕ → ℕ → Answer → Asking Outcome
fired bodies object operation (answer.Started components) =
    and_then (inner_at bodies object (outer_at bodies 15) 65 operation [] components 100000) (completes false)
fired bodies object operation other = ended (Err (cause.Stopped true))

-- what a line does whose handler is this operation of this object
abbrev pub line_run : UnitBodies → ℕ → ℕ → Asking Outcome
line_run bodies object operation = asking request.Fire (fired bodies object operation)
