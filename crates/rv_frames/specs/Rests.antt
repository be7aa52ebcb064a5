-- The rest of what comes to the frame on top, and is taken by it (own).
use Rattle.std.specs.Prelude.{◌≡◌, ℕ, ℤ, int_lt, Bool, true, false, List, [], ◌∷◌, Option, Some, None, Ok, Err}
use Rattle.rv_shape.specs.declared.kind.Range.{Range}
use Rattle.rv_event.specs.declared.entry.Exception.{Exception}
use Rattle.rv_event.specs.declared.entry.Exception.TheVariants.{ConstraintError, ProgramError}
use Rattle.rv_code.specs.declared.statement.Target.{Target}
use Rattle.rv_code.specs.Expressions.{Expression}
use Rattle.rv_code.specs.Statements.{Statements}
use Rattle.rv_code.specs.Bodies.{Declaration, Handler, Body, UnitBodies}
use Rattle.rv_exec.specs.declared.activation.Activation.{Activation}
use Rattle.rv_exec.specs.declared.setting.Setting.{Setting}
use Rattle.rv_exec.specs.declared.end.Cause.{Cause}
use Rattle.rv_exec.specs.declared.end.Cause.TheVariants as cause
use Rattle.rv_exec.specs.declared.end.End.{End}
use Rattle.rv_exec.specs.declared.end.End.TheVariants as ends
use Rattle.rv_exec.specs.declared.end.Asked.TheVariants as asked
use Rattle.rv_exec.specs.Asking as asking
use Rattle.rv_exec.specs.Activations.{assigned, copied_back, fits, span}
use Rattle.rv_exec.specs.Blocks.{outcome_of, raised}
use Rattle.rv_exec.specs.Calls.{Outcome, exit_of}
use Rattle.rv_exec.specs.Choices.{handler_of}
use Rattle.rv_exec.specs.Statements.{exit_where}
use Rattle.rv_frames.specs.Frames.{Frame, Now, testing, turning, lowering, raising, counting, leaving, returning, copying, sequencing, declaring, opening, handling, restoring, performing, exiting, quitting, valued, listed, done, closes, reaches, outside, exited, runs_all, counts, declares, quits_of, comes, meant}

-- whether the next statement follows
abbrev pub is_next : End → Bool
is_next ends.Next = true
is_next other = false

-- loops (5.5, 5.7)
pub record LoopsRest (bodies : UnitBodies) (fs : List Frame) (s : Setting) : Type 0 where
  -- a condition that fails, and a turn that returns
  pub condition_fails :
      (n : ℕ) (e : Expression) (ss : Statements) (why : Cause) (a : Activation)
      → meant bodies (comes (valued (Err why) a)) (testing n e ss ∷ fs) s
      ≡ meant bodies (comes (done (ends.Abandoned why) a)) fs s
  pub turn_returns :
      (n : ℕ) (e : Expression) (ss : Statements) (v : Option ℤ) (a : Activation)
      → meant bodies (comes (done (ends.Return v) a)) (turning n e ss ∷ fs) s
      ≡ meant bodies (comes (done (ends.Return v) a)) fs s
  -- the bounds of a range
  pub lower_bound_fails :
      (slot : ℕ) (is_reverse : Bool) (range : Range) (high : Expression) (ss : Statements) (why : Cause) (a : Activation)
      → meant bodies (comes (valued (Err why) a)) (lowering slot is_reverse range high ss ∷ fs) s
      ≡ meant bodies (comes (done (ends.Abandoned why) a)) fs s
  pub null_range :
      (slot : ℕ) (is_reverse : Bool) (range : Range) (low high : ℤ) (ss : Statements) (a : Activation)
      → int_lt high low ≡ true
      → meant bodies (comes (valued (Ok high) a)) (raising slot is_reverse range low ss ∷ fs) s
      ≡ meant bodies (comes (done ends.Next a)) fs s
  pub values :
      (slot : ℕ) (is_reverse : Bool) (range : Range) (low high : ℤ) (ss : Statements) (a : Activation)
      → int_lt high low ≡ false → fits range low high ≡ true
      → meant bodies (comes (valued (Ok high) a)) (raising slot is_reverse range low ss ∷ fs) s
      ≡ meant bodies (counts (span low high) is_reverse low high slot ss a) fs s
  pub range_raises :
      (slot : ℕ) (is_reverse : Bool) (range : Range) (low high : ℤ) (ss : Statements) (a : Activation)
      → int_lt high low ≡ false → fits range low high ≡ false
      → meant bodies (comes (valued (Ok high) a)) (raising slot is_reverse range low ss ∷ fs) s
      ≡ meant bodies (comes (done (ends.Abandoned (cause.Raised ConstraintError)) a)) fs s
  pub upper_bound_fails :
      (slot : ℕ) (is_reverse : Bool) (range : Range) (low : ℤ) (ss : Statements) (why : Cause) (a : Activation)
      → meant bodies (comes (valued (Err why) a)) (raising slot is_reverse range low ss ∷ fs) s
      ≡ meant bodies (comes (done (ends.Abandoned why) a)) fs s
  -- the end of the statements for one value
  pub next_value :
      (n : ℕ) (is_reverse : Bool) (low high : ℤ) (slot : ℕ) (ss : Statements) (a : Activation)
      → meant bodies (comes (done ends.Next a)) (counting n is_reverse low high slot ss ∷ fs) s
      ≡ meant bodies (counts n is_reverse low high slot ss a) fs s
  pub values_left :
      (n : ℕ) (is_reverse : Bool) (low high : ℤ) (slot : ℕ) (ss : Statements) (a : Activation)
      → meant bodies (comes (done ends.Exit a)) (counting n is_reverse low high slot ss ∷ fs) s
      ≡ meant bodies (comes (done ends.Next a)) fs s
  pub value_returns :
      (n : ℕ) (is_reverse : Bool) (low high : ℤ) (slot : ℕ) (ss : Statements) (v : Option ℤ) (a : Activation)
      → meant bodies (comes (done (ends.Return v) a)) (counting n is_reverse low high slot ss ∷ fs) s
      ≡ meant bodies (comes (done (ends.Return v) a)) fs s
  pub value_abandoned :
      (n : ℕ) (is_reverse : Bool) (low high : ℤ) (slot : ℕ) (ss : Statements) (why : Cause) (a : Activation)
      → meant bodies (comes (done (ends.Abandoned why) a)) (counting n is_reverse low high slot ss ∷ fs) s
      ≡ meant bodies (comes (done (ends.Abandoned why) a)) fs s

-- other statements, declarations and handlers (3.11, 5.1, 5.7, 6.4.1, 6.5, 11.4)
pub record StatementsRest (bodies : UnitBodies) (fs : List Frame) (s : Setting) : Type 0 where
  -- the condition of an exit (5.7)
  pub exit :
      (v : ℤ) (a : Activation)
      → meant bodies (comes (valued (Ok v) a)) (leaving ∷ fs) s
      ≡ meant bodies (comes (done (exit_where v) a)) fs s
  pub exit_fails :
      (why : Cause) (a : Activation)
      → meant bodies (comes (valued (Err why) a)) (leaving ∷ fs) s
      ≡ meant bodies (comes (done (ends.Abandoned why) a)) fs s
  -- the expression of a return (6.5)
  pub return :
      (v : ℤ) (a : Activation)
      → meant bodies (comes (valued (Ok v) a)) (returning ∷ fs) s
      ≡ meant bodies (comes (done (ends.Return (Some v)) a)) fs s
  pub return_fails :
      (why : Cause) (a : Activation)
      → meant bodies (comes (valued (Err why) a)) (returning ∷ fs) s
      ≡ meant bodies (comes (done (ends.Abandoned why) a)) fs s
  -- the values that come back from a call statement (6.4.1)
  pub copied :
      (targets : List Target) (values : List ℤ) (a : Activation) (e : End) (b : Activation)
      → (e, b) ≡ copied_back targets 0 values a
      → meant bodies (comes (listed (Ok values) a)) (copying targets ∷ fs) s
      ≡ meant bodies (comes (done e b)) fs s
  pub copy_fails :
      (targets : List Target) (why : Cause) (a : Activation)
      → meant bodies (comes (listed (Err why) a)) (copying targets ∷ fs) s
      ≡ meant bodies (comes (done (ends.Abandoned why) a)) fs s
  -- a statement behind which the next one doesn't follow (5.1)
  pub statement_ends :
      (ss : Statements) (e : End) (a : Activation)
      → is_next e ≡ false
      → meant bodies (comes (done e a)) (sequencing ss ∷ fs) s
      ≡ meant bodies (comes (done e a)) fs s
  -- an initial value (3.11)
  pub declaration :
      (target : Target) (more : List Declaration) (v : ℤ) (a : Activation) (e : End) (b : Activation)
      → (e, b) ≡ assigned target v a → is_next e ≡ true
      → meant bodies (comes (valued (Ok v) a)) (declaring target more ∷ fs) s
      ≡ meant bodies (declares more b) fs s
  pub declaration_ends :
      (target : Target) (more : List Declaration) (v : ℤ) (a : Activation) (e : End) (b : Activation)
      → (e, b) ≡ assigned target v a → is_next e ≡ false
      → meant bodies (comes (valued (Ok v) a)) (declaring target more ∷ fs) s
      ≡ meant bodies (comes (done e b)) fs s
  pub declaration_fails :
      (target : Target) (more : List Declaration) (why : Cause) (a : Activation)
      → meant bodies (comes (valued (Err why) a)) (declaring target more ∷ fs) s
      ≡ meant bodies (comes (done (ends.Abandoned why) a)) fs s
  -- declarations behind which no statement runs (11.4)
  pub not_opened :
      (ss : Statements) (hs : List Handler) (e : End) (a : Activation)
      → is_next e ≡ false
      → meant bodies (comes (done e a)) (opening ss hs ∷ fs) s
      ≡ meant bodies (comes (done e a)) fs s
  -- an end that is no exception, and an exception with a handler and without (11.4)
  pub not_raised :
      (hs : List Handler) (e : End) (a : Activation)
      → raised e ≡ None
      → meant bodies (comes (done e a)) (handling hs ∷ fs) s
      ≡ meant bodies (comes (done e a)) fs s
  pub unhandled :
      (hs : List Handler) (e : End) (exception : Exception) (a : Activation)
      → raised e ≡ Some exception → handler_of hs exception ≡ None
      → meant bodies (comes (done e a)) (handling hs ∷ fs) s
      ≡ meant bodies (comes (done e a)) fs s
  pub handled :
      (hs : List Handler) (e : End) (exception : Exception) (ss : Statements) (a : Activation)
      → raised e ≡ Some exception → handler_of hs exception ≡ Some ss
      → meant bodies (comes (done e a)) (handling hs ∷ fs) s
      ≡ meant bodies (runs_all ss a) (restoring s.handling ∷ fs) (record s { handling = Some exception })
  -- behind a handler the exception before it is handled again
  pub restored :
      (exception : Option Exception) (now : Now)
      → meant bodies (comes now) (restoring exception ∷ fs) s
      ≡ meant bodies (comes now) fs (record s { handling = exception })

-- calls, tasks, and the empty stack (9.3, 9.5.1)
pub record CallsRest (bodies : UnitBodies) (fs : List Frame) (s : Setting) : Type 0 where
  -- what a request comes to that starts no body
  pub given :
      (held : ℕ) (values given : List ℤ)
      → meant bodies (comes (reaches (asked.Given given))) (performing held values ∷ fs) s
      ≡ meant bodies (comes (outside (Ok given))) fs s
  pub abandoned :
      (held : ℕ) (values : List ℤ) (why : Cause)
      → meant bodies (comes (reaches (asked.Abandoned why))) (performing held values ∷ fs) s
      ≡ meant bodies (comes (outside (Err why))) fs s
  -- a body that starts for an actor that holds all that it may
  pub started_past :
      (object operation : ℕ) (is_function : Bool) (values components : List ℤ)
      → meant bodies (comes (reaches (asked.Started object operation is_function components))) (performing 0 values ∷ fs) s
      ≡ meant bodies (comes (outside (Err (cause.Raised ProgramError)))) fs s
  -- the body of an operation is over, and that of a task
  pub exit :
      (outcome : Outcome) (components : List ℤ) (steps : ℕ)
      → meant bodies (comes (closes outcome components steps)) (exiting ∷ fs) s
      ≡ meant bodies (comes (exited (exit_of outcome) components)) fs s
  pub task :
      (body : Body) (e : End) (a : Activation)
      → meant bodies (comes (done e a)) (quitting body ∷ fs) s
      ≡ meant bodies (quits_of (outcome_of body e a)) fs s
  -- what comes to the empty stack is the end
  pub over :
      (now : Now)
      → meant bodies (comes now) [] s ≡ asking.ended now

abbrev pub RestsKeepTheMeaning : Type 0
RestsKeepTheMeaning =
    (bodies : UnitBodies) (fs : List Frame) (s : Setting)
    → LoopsRest bodies fs s × StatementsRest bodies fs s × CallsRest bodies fs s
