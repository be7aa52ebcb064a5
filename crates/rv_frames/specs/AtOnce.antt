-- Where the run comes to something at once, without a part that runs before, what it still does stays (own).
use Rattle.std.specs.Prelude.{◌≡◌, ℕ, suc, ℤ, pos, Bool, true, false, List, [], ◌∷◌, replicate, Some, None, Err}
use Rattle.rv_event.specs.declared.entry.Exception.{Exception}
use Rattle.rv_event.specs.declared.entry.Exception.TheVariants.{ConstraintError, ProgramError}
use Rattle.rv_code.specs.Callees.{of_object}
use Rattle.rv_code.specs.declared.expression.Callee.{Callee}
use Rattle.rv_code.specs.declared.statement.Choice.{Choice}
use Rattle.rv_code.specs.Expressions.{Expression}
use Rattle.rv_code.specs.Statements.{Statements, Alternatives}
use Rattle.rv_code.specs.Statements as statement
use Rattle.rv_code.specs.Bodies.{Body, UnitBodies}
use Rattle.rv_exec.specs.declared.activation.Activation.{Activation}
use Rattle.rv_exec.specs.declared.setting.Setting.{Setting}
use Rattle.rv_exec.specs.declared.end.Cause.TheVariants as cause
use Rattle.rv_exec.specs.declared.end.End.TheVariants as ends
use Rattle.rv_exec.specs.Activations.{stepped, spent, opened, bound}
use Rattle.rv_exec.specs.Bodies.{operation_of}
use Rattle.rv_exec.specs.Calls.{internal, is_past}
use Rattle.rv_exec.specs.Choices.{covered}
use Rattle.rv_exec.specs.Statements.{raised_again}
use Rattle.rv_frames.specs.Frames.{Frame, Now, answering, opening, closing, closes, outside, done, runs, runs_all, selects_of, turns_of, counts, declares, calls, enters, comes, inner_setting, denoted, meant}

-- statements that only end, and what is over (5.1 to 5.5, 6.5, 11.3)
pub record StatementsAtOnce (bodies : UnitBodies) (fs : List Frame) (s : Setting) : Type 0 where
  -- a null statement (5.1)
  pub null :
      (a : Activation)
      → meant bodies (runs statement.null_statement a) fs s
      ≡ meant bodies (comes (done ends.Next a)) fs s
  -- a return without a value (6.5)
  pub returns :
      (a : Activation)
      → meant bodies (runs statement.returns a) fs s
      ≡ meant bodies (comes (done (ends.Return None) a)) fs s
  -- a raise, with a name and without (11.3)
  pub raises :
      (exception : Exception) (a : Activation)
      → meant bodies (runs (statement.raises exception) a) fs s
      ≡ meant bodies (comes (done (ends.Abandoned (cause.Raised exception)) a)) fs s
  pub reraises :
      (a : Activation)
      → meant bodies (runs statement.reraises a) fs s
      ≡ meant bodies (comes (done (ends.Abandoned (raised_again s.handling)) a)) fs s
  -- the alternative that covers the value, one that doesn't, and none left (5.4)
  pub alternative :
      (choices : List Choice) (ss : Statements) (more : Alternatives) (v : ℤ) (a : Activation)
      → covered choices v ≡ true
      → meant bodies (selects_of (statement.and_alternative choices ss more) v a) fs s
      ≡ meant bodies (runs_all ss a) fs s
  pub next_alternative :
      (choices : List Choice) (ss : Statements) (more : Alternatives) (v : ℤ) (a : Activation)
      → covered choices v ≡ false
      → meant bodies (selects_of (statement.and_alternative choices ss more) v a) fs s
      ≡ meant bodies (selects_of more v a) fs s
  pub no_alternative :
      (v : ℤ) (a : Activation)
      → meant bodies (selects_of statement.no_alternatives v a) fs s
      ≡ meant bodies (comes (done (ends.Abandoned (cause.Raised ConstraintError)) a)) fs s
  -- more turns of a loop than steps never come (own)
  pub no_turn :
      (e : Expression) (ss : Statements) (a : Activation)
      → meant bodies (turns_of 0 e ss a) fs s
      ≡ meant bodies (comes (done (ends.Abandoned cause.Overrun) a)) fs s
  -- no value of a loop's range is left, and no step for the next one (5.5)
  pub no_value :
      (is_reverse : Bool) (low high : ℤ) (slot : ℕ) (ss : Statements) (a : Activation)
      → meant bodies (counts 0 is_reverse low high slot ss a) fs s
      ≡ meant bodies (comes (done ends.Next a)) fs s
  pub value_overruns :
      (n : ℕ) (is_reverse : Bool) (low high : ℤ) (slot : ℕ) (ss : Statements) (a : Activation)
      → stepped a ≡ None
      → meant bodies (counts (suc n) is_reverse low high slot ss a) fs s
      ≡ meant bodies (comes (done (ends.Abandoned cause.Overrun) a)) fs s
  -- no declaration is left (3.11)
  pub no_declaration :
      (a : Activation)
      → meant bodies (declares [] a) fs s
      ≡ meant bodies (comes (done ends.Next a)) fs s

-- calls that start no body, and the body that starts (6.4, 9.5; limits own)
pub record CallsAtOnce (bodies : UnitBodies) (fs : List Frame) (s : Setting) : Type 0 where
  -- a call of another object by an actor that holds all that it may
  pub past_limit :
      (callee at : Callee) (values : List ℤ) (a b : Activation)
      → internal callee ≡ None → spent s.is_task a ≡ Some b → at ≡ of_object s.object callee → is_past s.held at ≡ true
      → meant bodies (calls callee values a) fs s
      ≡ meant bodies (comes (outside (Err (cause.Raised ProgramError)))) (answering b ∷ fs) s
  -- no more calls may nest
  pub too_deep :
      (operation : ℕ) (values components : List ℤ) (steps : ℕ)
      → s.nested ≡ 0
      → meant bodies (enters operation values components steps) fs s
      ≡ meant bodies (comes (closes (Err cause.Overrun) components steps)) fs s
  -- the operation has no body
  pub no_body :
      (operation : ℕ) (values components : List ℤ) (steps nested : ℕ)
      → s.nested ≡ suc nested → operation_of bodies s.object operation ≡ None
      → meant bodies (enters operation values components steps) fs s
      ≡ meant bodies (comes (closes (Err (cause.Raised ProgramError)) components steps)) fs s
  -- its body's declarations begin, where what waits below doesn't look at the setting
  pub body :
      (operation : ℕ) (values components : List ℤ) (steps nested : ℕ) (body : Body)
      → s.nested ≡ suc nested → operation_of bodies s.object operation ≡ Some body
      → ((now : Now) → denoted bodies fs s now ≡ denoted bodies fs (inner_setting s nested) now)
      → meant bodies (enters operation values components steps) fs s
      ≡ meant bodies (declares body.declarations (opened (bound body.parameters 0 0 values (replicate 132 (pos 0))) components steps 0))
      (opening body.statements body.handlers ∷ closing body ∷ fs) (inner_setting s nested)

abbrev pub ComesAtOnce : Type 0
ComesAtOnce =
    (bodies : UnitBodies) (fs : List Frame) (s : Setting)
    → StatementsAtOnce bodies fs s × CallsAtOnce bodies fs s
