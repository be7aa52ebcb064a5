-- What is kept of whole runs, of bodies and of tasks: it is kept where it is of what they ask outside and of how they end.
use Rattle.std.proofs.Common.{◌≡◌, ℕ, zero, suc, ℤ, pos, List, [], Bool, true, refl, subst, Option, Some, None, Ok, Err}
use Rattle.std.specs.Prelude.{◌-◌, replicate}
use Rattle.rv_event.specs.declared.entry.Exception.TheVariants.{ProgramError}
use Rattle.rv_event.specs.declared.entry.Exit.{Exit}
use Rattle.rv_event.specs.declared.entry.Exit.TheVariants as exit
use Rattle.rv_code.specs.declared.expression.Callee.{Callee}
use Rattle.rv_code.specs.Bodies.{Body, UnitBodies}
use Rattle.rv_fits.specs.Calls.{task_calls, such_in, every_call}
use Rattle.rv_exec.specs.declared.activation.Activation.{Activation}
use Rattle.rv_exec.specs.declared.end.Asked.{Asked}
use Rattle.rv_exec.specs.declared.end.Asked.TheVariants as asked
use Rattle.rv_exec.specs.declared.end.Cause.TheVariants as cause
use Rattle.rv_exec.specs.declared.end.End.{End}
use Rattle.rv_exec.specs.Asking.{Asking, ended, and_then}
use Rattle.rv_exec.specs.Activations.{opened, given_back}
use Rattle.rv_exec.specs.Blocks.{block, outcome_of, inner_at, performed, outer_at, exits, world}
use Rattle.rv_exec.specs.Calls.{Outcome, internal, reached, completes}
use Rattle.rv_exec.specs.Tasks.{task_setting, quits, over, task_meaning}
use Rattle.rv_exec.proofs.Keeping.{How, ongoing, halted, how_by, how_result, how_got, how_run, Kept, Sound, Follows, follows_end, sound_end, sound_then}
use Rattle.rv_exec.proofs.KeptValues.{SoundWorld}
use Rattle.rv_exec.proofs.KeptBodies.{block_sound, inner_sound, outcome_stops}

-- how an ask ends
abbrev pub how_asked : Asked → How
how_asked (asked.Given values) = ongoing
how_asked (asked.Started object operation is_function components) = ongoing
how_asked (asked.Abandoned why) = how_by why

-- and a body, or a task
abbrev pub how_exit : Exit → How
how_exit (exit.Return values) = ongoing
how_exit (exit.Raise exception) = ongoing
how_exit exit.Overrun = ongoing
how_exit exit.Stopped = halted

abbrev pub how_ended : Exit × List ℤ → How
how_ended last = how_exit last.0

-- It is kept of a request of another object, and of the ends of bodies there, of a body's own and of a task's.
pub record KeptOutside (kept : Kept) : Type 0 where
  pub asks : (held : ℕ) (c : Callee) (values : List ℤ) → internal c ≡ None → kept.such c ≡ true → Sound kept how_asked (reached held c values)
  pub ends : (is_function : Bool) (got : Outcome × (List ℤ × ℕ)) → Follows kept (how_got got) how_result (completes is_function got)
  pub leaves : (got : Outcome × (List ℤ × ℕ)) → Follows kept (how_got got) how_ended (exits got)
  pub stops : (outcome : Outcome) → Follows kept (how_result outcome) how_exit (quits outcome)

follows_performed : (kept : Kept) (perform : ℕ → ℕ → Bool → List ℤ → Asking Outcome) → ((object operation : ℕ) (is_function : Bool) (components : List ℤ) → Sound kept how_result (perform object operation is_function components)) → (what : Asked) → Follows kept (how_asked what) how_result (performed perform what)
follows_performed kept perform f (asked.Given values) = sound_end kept how_result (Ok values) refl
follows_performed kept perform f (asked.Started object operation is_function components) = f object operation is_function components
follows_performed kept perform f (asked.Abandoned why) = follows_end kept (how_by why) how_result (Err why) refl

module _ (kept : Kept) (k : KeptOutside kept) (bodies : UnitBodies) (m : every_call kept.such bodies ≡ true) where
  outer_sound : (held : ℕ) (c : Callee) (values : List ℤ) → internal c ≡ None → kept.such c ≡ true → Sound kept how_result (outer_at bodies held c values)
  unfolding outer_at
  outer_sound zero c values n i =
      sound_then kept how_asked how_result (reached zero c values) (performed (λ object operation is_function components. ended (Err (cause.Raised ProgramError)))) (k.asks zero c values n i)
      (follows_performed kept (λ object operation is_function components. ended (Err (cause.Raised ProgramError))) (λ object operation is_function components. sound_end kept how_result (Err (cause.Raised ProgramError)) refl))
  outer_sound (suc held) c values n i =
      sound_then kept how_asked how_result (reached (suc held) c values)
      (performed (λ object operation is_function components. and_then (inner_at bodies object (outer_at bodies held) 65 operation values components 100000) (completes is_function))) (k.asks (suc held) c values n i)
      (follows_performed kept (λ object operation is_function components. and_then (inner_at bodies object (outer_at bodies held) 65 operation values components 100000) (completes is_function))
      (λ object operation is_function components. sound_then kept how_got how_result (inner_at bodies object (outer_at bodies held) 65 operation values components 100000) (completes is_function)
      (inner_sound kept bodies object (outer_at bodies held) m (λ d v j s. outer_sound held d v j s) 65 operation values components 100000) (k.ends is_function)))

  pub body_kept : (held object operation : ℕ) (values components : List ℤ) → Sound kept how_ended (and_then (inner_at bodies object (outer_at bodies (16 - held)) 65 operation values components 100000) exits)
  body_kept held object operation values components =
      sound_then kept how_got how_ended (inner_at bodies object (outer_at bodies (16 - held)) 65 operation values components 100000) exits
      (inner_sound kept bodies object (outer_at bodies (16 - held)) m (λ c v n i. outer_sound (16 - held) c v n i) 65 operation values components 100000) k.leaves

  follows_over : (body : Body) (ran : End × Activation) → Follows kept (how_run ran) how_exit (over body ran)
  follows_over body (e, a) =
      subst (λ (h : How). Follows kept h how_exit (quits (outcome_of body e a))) (outcome_stops body.is_function e (given_back body.parameters 0 a.slots [])) (k.stops (outcome_of body e a))

  task_world : SoundWorld kept (world bodies task_setting)
  task_world = record {
    inner = λ o v c s. inner_sound kept bodies 0 (outer_at bodies 16) m (λ d u n i. outer_sound 16 d u n i) 65 o v c s;
    outer = λ c v n i. outer_sound 16 c v n i;
  }

  pub task_kept : (o : Option Body) (requests : ℕ) → task_calls (such_in kept.such 0) o ≡ true → Sound kept how_exit (task_meaning bodies o requests)
  unfolding task_meaning
  task_kept None requests i = k.stops (Ok [])
  task_kept (Some body) requests i =
      sound_then kept how_run how_exit (block (world bodies task_setting) body (opened (replicate 132 (pos 0)) [] 100000 requests)) (over body)
      (block_sound kept (world bodies task_setting) task_world body (opened (replicate 132 (pos 0)) [] 100000 requests) i) (follows_over body)
