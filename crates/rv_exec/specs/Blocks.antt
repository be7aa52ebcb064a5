-- What bodies do (ISO/IEC 8652:2012, 3.11, 6.4.1, 6.5, 11.4).
use Rattle.std.specs.Prelude.{ℕ, zero, suc, ◌-◌, ℤ, pos, List, [], ◌∷◌, Bool, false, if◌then◌else◌, Option, Some, None, Ok, Err, replicate}
use Rattle.rv_event.specs.declared.entry.Exception.{Exception}
use Rattle.rv_event.specs.declared.entry.Exception.TheVariants.{ProgramError}
use Rattle.rv_event.specs.declared.entry.Exit.{Exit}
use Rattle.rv_code.specs.declared.expression.Callee.{Callee}
use Rattle.rv_code.specs.Bodies.{Declaration, Handler, Body, UnitBodies}
use Rattle.rv_code.specs.Statements.{Statements}
use Rattle.rv_exec.specs.declared.activation.Activation.{Activation}
use Rattle.rv_exec.specs.declared.setting.Setting.{Setting}
use Rattle.rv_exec.specs.declared.end.Cause.TheVariants as cause
use Rattle.rv_exec.specs.declared.end.End.{End}
use Rattle.rv_exec.specs.declared.end.End.TheVariants as end
use Rattle.rv_exec.specs.declared.end.Asked.{Asked}
use Rattle.rv_exec.specs.declared.end.Asked.TheVariants as asked
use Rattle.rv_exec.specs.Asking.{Asking, ended, and_then}
use Rattle.rv_exec.specs.Activations.{assigned, bound, opened, given_back}
use Rattle.rv_exec.specs.Bodies.{operation_of}
use Rattle.rv_exec.specs.Calls.{Outcome, reached, completes, exit_of}
use Rattle.rv_exec.specs.Choices.{handler_of}
use Rattle.rv_exec.specs.Expressions.{on_value, value}
use Rattle.rv_exec.specs.Statements.{abandons, go_on, meanings}
use Rattle.rv_exec.specs.World.{World, Run}

-- declarations in their order; each variable takes its initial value (3.3.1, 3.11)
unfoldable pub elaborated : World → List Declaration → Activation → Run
elaborated w [] a = ended (end.Next, a)
elaborated w (d ∷ more) a = and_then (value w d.initial a) (on_value abandons (λ v b. go_on (elaborated w more) (assigned d.target v b)))

-- the same, in a handler of this exception
abbrev pub in_handler : Exception → World → World
in_handler exception w = record w { handling = Some exception }

-- the exception that it is abandoned by, if it is (11.4)
abbrev pub raised : End → Option Exception
raised (end.Abandoned (cause.Raised exception)) = Some exception
raised other = None

abbrev pub handling : World → Exception → Option Statements → End × Activation → Run
handling w exception None before = ended before
handling w exception (Some ss) (e, a) = meanings (in_handler exception w) ss a

abbrev pub handled_by : World → List Handler → Option Exception → End × Activation → Run
handled_by w handlers None before = ended before
handled_by w handlers (Some exception) before = handling w exception (handler_of handlers exception) before

-- an exception of the statements is handled; one of a handler leaves the body (11.4)
abbrev pub handled : World → List Handler → End × Activation → Run
handled w handlers (e, a) = handled_by w handlers (raised e) (e, a)

-- declarations, whose exceptions the body's own handlers don't see, then the statements with the handlers (11.4)
unfoldable pub block : World → Body → Activation → Run
block w body a = and_then (elaborated w body.declarations a) (go_on (λ b. and_then (meanings w body.statements b) (handled w body.handlers)))

-- what a function's end gives: its value; falling off the end raises Program_Error (6.5)
abbrev pub function_outcome : End → Outcome
function_outcome (end.Return (Some v)) = Ok (v ∷ [])
function_outcome (end.Return None) = Err (cause.Raised ProgramError)
function_outcome end.Next = Err (cause.Raised ProgramError)
function_outcome end.Exit = Err (cause.Raised ProgramError)
function_outcome (end.Abandoned why) = Err why

-- what the end of another body gives: the values of its `out` and `in out` parameters (6.4.1)
abbrev pub procedure_outcome : End → List ℤ → Outcome
procedure_outcome (end.Abandoned why) values = Err why
procedure_outcome end.Next values = Ok values
procedure_outcome end.Exit values = Ok values
procedure_outcome (end.Return v) values = Ok values

abbrev pub outcome_of : Body → End → Activation → Outcome
outcome_of body e a = if body.is_function then function_outcome e else procedure_outcome e (given_back body.parameters 0 a.slots [])

abbrev pub closed : Body → End × Activation → Asking (Outcome × (List ℤ × ℕ))
closed body (e, a) = ended (outcome_of body e a, (a.components, a.steps))

-- an operation's body on these values, components and steps; one that isn't there raises Program_Error (own)
unfoldable pub body_meaning : World → Option Body → List ℤ → List ℤ → ℕ → Asking (Outcome × (List ℤ × ℕ))
body_meaning w None values components steps = ended (Err (cause.Raised ProgramError), (components, steps))
body_meaning w (Some body) values components steps =
    and_then (block w body (opened (bound body.parameters 0 0 values (replicate 132 (pos 0))) components steps 0)) (closed body)

-- an operation of an object, where so many internal calls may nest, this one with them; past that it is an overrun (own)
unfoldable pub inner_at : UnitBodies → ℕ → (Callee → List ℤ → Asking Outcome) → ℕ → ℕ → List ℤ → List ℤ → ℕ → Asking (Outcome × (List ℤ × ℕ))
inner_at bodies object outer zero operation values components steps = ended (Err cause.Overrun, (components, steps))
inner_at bodies object outer (suc nested) operation values components steps =
    body_meaning (record { inner = inner_at bodies object outer nested; outer = outer; object = object; is_task = false; handling = None }) (operation_of bodies object operation) values components steps

-- what follows a request: where a body has started, the body
abbrev pub performed : (ℕ → ℕ → Bool → List ℤ → Asking Outcome) → Asked → Asking Outcome
performed perform (asked.Given values) = ended (Ok values)
performed perform (asked.Abandoned why) = ended (Err why)
performed perform (asked.Started object operation is_function components) = perform object operation is_function components

-- requests of an actor that may hold so many more objects: behind a start come the callee's body, with 100,000 steps
-- and 64 internal calls nested, and its end (9.5.1, 9.5.3; limits own)
unfoldable pub outer_at : UnitBodies → ℕ → Callee → List ℤ → Asking Outcome
outer_at bodies zero callee values = and_then (reached zero callee values) (performed (λ object operation is_function components. ended (Err (cause.Raised ProgramError))))
outer_at bodies (suc held) callee values =
    and_then (reached (suc held) callee values) (performed (λ object operation is_function components.
    and_then (inner_at bodies object (outer_at bodies held) 65 operation values components 100000) (completes is_function)))

-- how a body exits, and the components then (own)
abbrev pub exits : Outcome × (List ℤ × ℕ) → Asking (Exit × List ℤ)
exits (outcome, (components, steps)) = ended (exit_of outcome, components)

-- the body of an operation that has started, whose actor holds so many objects, this one with them, of the 16 that it may
abbrev pub operation_run_at : UnitBodies → (held object operation : ℕ) → List ℤ → List ℤ → Asking (Exit × List ℤ)
operation_run_at bodies held object operation values components =
    and_then (inner_at bodies object (outer_at bodies (16 - held)) 65 operation values components 100000) exits

-- what its statements run in (own)
abbrev pub operation_setting : (held object : ℕ) → Setting
operation_setting held object = record { object = object; held = 16 - held; nested = 65; is_task = false; handling = None }

-- what statements of this setting run in
abbrev pub world : UnitBodies → Setting → World
world bodies s = record { inner = inner_at bodies s.object (outer_at bodies s.held) s.nested; outer = outer_at bodies s.held; object = s.object; is_task = s.is_task; handling = s.handling }
