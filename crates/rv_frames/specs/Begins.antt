-- How runs begin on an empty stack (own).
use Rattle.std.specs.Prelude.{◌≡◌, ℕ, ◌-◌, ℤ, pos, List, [], ◌∷◌, Some, None, Ok, replicate}
use Rattle.rv_code.specs.Bodies.{Body, UnitBodies}
use Rattle.rv_exec.specs.declared.setting.Setting.{Setting}
use Rattle.rv_exec.specs.Asking.{ended, and_then}
use Rattle.rv_exec.specs.Activations.{opened}
use Rattle.rv_exec.specs.Blocks.{operation_run_at}
use Rattle.rv_exec.specs.Tasks.{line_run, task_meaning, task_setting}
use Rattle.rv_frames.specs.Frames.{declares, enters, exit, exiting, fires, meant, opening, out, quit, quits_of, quitting, body_setting}

-- what a run still does as it begins is what it does, and how it ends comes to the empty stack
pub record RunsBegin (bodies : UnitBodies) : Type 0 where
  -- the body of an operation that has started, whose actor holds so many objects, this one with them (9.5.1)
  pub operation :
      (held object operation : ℕ) (values components : List ℤ)
      → meant bodies (enters operation values components 100000) (exiting ∷ []) (body_setting object (16 - held))
      ≡ and_then (operation_run_at bodies held object operation values components) (exit ended)
  -- a task with so many requests (9.2)
  pub task :
      (body : Body) (requests : ℕ)
      → meant bodies (declares body.declarations (opened (replicate 132 (pos 0)) [] 100000 requests))
      (opening body.statements body.handlers ∷ quitting body ∷ []) task_setting
      ≡ and_then (task_meaning bodies (Some body) requests) (quit ended)
  pub task_alone :
      (requests : ℕ)
      → meant bodies (quits_of (Ok [])) [] task_setting ≡ and_then (task_meaning bodies None requests) (quit ended)
  -- a line that fires, whose handler is this operation of this object (C.3)
  pub line :
      (object operation : ℕ) (s : Setting)
      → meant bodies (fires object operation) [] s ≡ and_then (line_run bodies object operation) (out ended)

abbrev pub RunsBeginAsTheyAre : Type 0
RunsBeginAsTheyAre = (bodies : UnitBodies) → RunsBegin bodies
