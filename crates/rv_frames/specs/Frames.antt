-- What waits on the stack of a run, and what the run still does (own).
use Rattle.std.specs.Prelude.{ℕ, zero, suc, ℤ, pos, List, [], ◌∷◌, replicate, Bool, false, if◌then◌else◌, Option, Some, None, Result, Err}
use Rattle.rv_shape.specs.declared.kind.Range.{Range}
use Rattle.rv_event.specs.declared.entry.Exception.{Exception}
use Rattle.rv_event.specs.declared.entry.Exception.TheVariants.{ProgramError}
use Rattle.rv_event.specs.declared.entry.Exit.{Exit}
use Rattle.rv_event.specs.declared.entry.Request.{Request}
use Rattle.rv_code.specs.declared.expression.Callee.{Callee}
use Rattle.rv_code.specs.declared.expression.Prefix.{Prefix}
use Rattle.rv_code.specs.declared.expression.Operator.{Operator}
use Rattle.rv_code.specs.declared.statement.Target.{Target}
use Rattle.rv_code.specs.Expressions.{Expression, Expressions, Links}
use Rattle.rv_code.specs.Statements.{Statements, Statement, Branches, Alternatives}
use Rattle.rv_code.specs.Bodies.{Declaration, Handler, Body, UnitBodies}
use Rattle.rv_exec.specs.declared.activation.Activation.{Activation}
use Rattle.rv_exec.specs.declared.setting.Setting.{Setting}
use Rattle.rv_exec.specs.declared.end.Cause.{Cause}
use Rattle.rv_exec.specs.declared.end.Cause.TheVariants as cause
use Rattle.rv_exec.specs.declared.end.End.{End}
use Rattle.rv_exec.specs.declared.end.End.TheVariants as ends
use Rattle.rv_exec.specs.declared.end.Asked.{Asked}
use Rattle.rv_exec.specs.declared.end.Reply.TheVariants as reply
use Rattle.rv_exec.specs.Asking.{Asking, ended, and_then}
use Rattle.rv_exec.specs.Activations.{assigned, joined, bound, opened, copied_back}
use Rattle.rv_exec.specs.Operators.{prefix_of, within, result_of, is_true}
use Rattle.rv_exec.specs.Calls.{Outcome, asks, settled, completes, ends_by}
use Rattle.rv_exec.specs.World.{World, Run, Got, GotAll}
use Rattle.rv_exec.specs.Expressions.{on_value, fails, value, linked, arguments, called, given, returned, answered}
use Rattle.rv_exec.specs.Statements.{abandons, step, go_on, again, turns, values_over, for_each, exit_where, meaning, meanings, first_true, selected}
use Rattle.rv_exec.specs.Blocks.{elaborated, handled, closed, performed, inner_at, outer_at, exits, world}
use Rattle.rv_exec.specs.Tasks.{over, quits, line_run}

-- what comes to the frame on top of the stack
pub data Now : Type 0 where
  -- the value of an expression
  valued : Result ℤ Cause → Activation → Now
  -- the values of arguments, or those that a call gives
  listed : Outcome → Activation → Now
  -- how a statement ends
  done : End → Activation → Now
  -- what a body comes to, the components and the steps left
  closes : Outcome → List ℤ → ℕ → Now
  -- what a request comes to
  reaches : Asked → Now
  -- what a call of another object comes to
  outside : Outcome → Now
  -- how the body of an operation exits, and the components then
  exited : Exit → List ℤ → Now
  -- how a task ends
  quitted : Exit → Now

-- the setting of the body of a call inside the object, where so many more calls may nest (own)
abbrev pub inner_setting : Setting → ℕ → Setting
inner_setting s nested = record { object = s.object; held = s.held; nested = nested; is_task = false; handling = None }

-- the setting of the body of an operation of an object, by an actor that may hold so many more (own)
abbrev pub body_setting : ℕ → ℕ → Setting
body_setting object held = record { object = object; held = held; nested = 65; is_task = false; handling = None }

-- the activation of a body that is called inside the object with these values, as its declarations begin (6.4.1)
abbrev pub begun : Body → List ℤ → Activation → Activation
begun body values a = opened (bound body.parameters 0 0 values (replicate 132 (pos 0))) a.components a.steps 0

-- what is left to do where something comes
pub data Frame : Type 0 where
  -- behind an operand: its prefix (4.5.6)
  prefixing : Prefix → Frame
  -- behind the first operand of a chain: its links
  linking : Links → Frame
  -- behind the right operand: the operator, with the left operand's value, and the links behind it (4.5)
  operating : Operator → ℤ → Links → Frame
  -- behind a value: the check of its range (3.5, 4.6)
  bounding : Range → Frame
  -- behind an argument: those behind it, with the values before it (6.4.1)
  arguing : List ℤ → Expressions → Frame
  -- behind the arguments: the call (6.4)
  passing : Callee → Frame
  -- behind a call: its value
  giving : Frame
  -- behind the expression of an assignment: the target (5.2)
  assigning : Target → Frame
  -- behind a condition: its statements, the branches behind it, and those behind `else` (5.3)
  branching : Statements → Branches → Statements → Frame
  -- behind the expression of a case statement: its alternatives (5.4)
  selecting : Alternatives → Frame
  -- behind a loop's condition, and behind its statements: so many turns at most (5.5)
  testing : (turns : ℕ) → Expression → Statements → Frame
  turning : (turns : ℕ) → Expression → Statements → Frame
  -- behind the lower bound of a loop's range, and behind the upper one (5.5)
  lowering : (slot : ℕ) → (is_reverse : Bool) → Range → Expression → Statements → Frame
  raising : (slot : ℕ) → (is_reverse : Bool) → Range → ℤ → Statements → Frame
  -- behind the statements for one value of a loop's range: so many values are left
  counting : (left : ℕ) → (is_reverse : Bool) → ℤ → ℤ → (slot : ℕ) → Statements → Frame
  -- behind the condition of an exit (5.7)
  leaving : Frame
  -- behind the expression of a return (6.5)
  returning : Frame
  -- behind a call statement: the targets that its values go to (6.4.1)
  copying : List Target → Frame
  -- behind a statement: those that follow (5.1)
  sequencing : Statements → Frame
  -- behind an initial value: its target, and the declarations that follow (3.11)
  declaring : Target → List Declaration → Frame
  -- behind the declarations: the statements with their handlers (11.4)
  opening : Statements → List Handler → Frame
  -- behind the statements: the handlers (11.4)
  handling : List Handler → Frame
  -- behind the statements of a handler: the exception that was handled before them
  restoring : Option Exception → Frame
  -- behind the statements of a body: what the body comes to
  closing : Body → Frame
  -- an internal call waits, in this setting with this activation
  resuming : Setting → Activation → Frame
  -- a call of another object waits, with this activation
  answering : Activation → Frame
  -- behind the start of a body of another object, by an actor that may hold so many more
  performing : ℕ → List ℤ → Frame
  -- behind that body: its end is asked, in this setting
  completing : Bool → Setting → Frame
  -- behind the body of an operation: how it exits
  exiting : Frame
  -- behind the statements of a task: its end
  quitting : Body → Frame

-- what follows what comes
abbrev pub To : Type 0
To = Now → Asking Now

-- A frame takes one kind of what comes, and gives what it makes of it to the frame below; another kind goes below as it is.
abbrev pub by_value : {A : Type 0} → (Got → Asking A) → (To → A → Asking Now) → To → To
by_value go give below (valued v a) = and_then (go (v, a)) (give below)
by_value go give below other = below other

abbrev pub by_values : {A : Type 0} → (GotAll → Asking A) → (To → A → Asking Now) → To → To
by_values go give below (listed outcome a) = and_then (go (outcome, a)) (give below)
by_values go give below other = below other

abbrev pub by_end : {A : Type 0} → (End × Activation → Asking A) → (To → A → Asking Now) → To → To
by_end go give below (done e a) = and_then (go (e, a)) (give below)
by_end go give below other = below other

abbrev pub by_body : {A : Type 0} → (Outcome × (List ℤ × ℕ) → Asking A) → (To → A → Asking Now) → To → To
by_body go give below (closes outcome components steps) = and_then (go (outcome, (components, steps))) (give below)
by_body go give below other = below other

abbrev pub by_request : {A : Type 0} → (Asked → Asking A) → (To → A → Asking Now) → To → To
by_request go give below (reaches what) = and_then (go what) (give below)
by_request go give below other = below other

abbrev pub by_call : {A : Type 0} → (Outcome → Asking A) → (To → A → Asking Now) → To → To
by_call go give below (outside outcome) = and_then (go outcome) (give below)
by_call go give below other = below other

-- what is made of it comes to the frame below
abbrev pub got : To → Got → Asking Now
got below (v, a) = below (valued v a)

abbrev pub all : To → GotAll → Asking Now
all below (outcome, a) = below (listed outcome a)

abbrev pub end : To → End × Activation → Asking Now
end below (e, a) = below (done e a)

abbrev pub close : To → Outcome × (List ℤ × ℕ) → Asking Now
close below (outcome, (components, steps)) = below (closes outcome components steps)

abbrev pub reach : To → Asked → Asking Now
reach below what = below (reaches what)

abbrev pub out : To → Outcome → Asking Now
out below outcome = below (outside outcome)

abbrev pub exit : To → Exit × List ℤ → Asking Now
exit below (e, components) = below (exited e components)

abbrev pub quit : To → Exit → Asking Now
quit below e = below (quitted e)

-- what follows the start of a body of another object, by an actor that may hold so many more (9.5.1, 9.5.3; limits own)
abbrev pub started_by : UnitBodies → ℕ → List ℤ → ℕ → ℕ → Bool → List ℤ → Asking Outcome
started_by bodies zero values object operation is_function components = ended (Err (cause.Raised ProgramError))
started_by bodies (suc held) values object operation is_function components =
    and_then (inner_at bodies object (outer_at bodies held) 65 operation values components 100000) (completes is_function)

-- the statements behind a condition of this value, or the branches that follow (5.3)
abbrev pub branch_if : World → Statements → Branches → Statements → ℤ → Activation → Run
branch_if w ss more otherwise v a =
    if is_true v then meanings w ss a else first_true w more (meanings w otherwise) a

-- the turn of a loop whose condition has this value (5.5)
abbrev pub turn_if : World → ℕ → Expression → Statements → ℤ → Activation → Run
turn_if w n e ss v a =
    if is_true v
    then step a (λ b. and_then (meanings w ss b) (again (turns n (value w e) (meanings w ss))))
    else ended (ends.Next, a)

-- the turns over a range with this lower bound (5.5)
abbrev pub turns_from : World → (slot : ℕ) → Bool → Range → Expression → Statements → ℤ → Activation → Run
turns_from w slot is_reverse range high ss low a =
    and_then (value w high a) (on_value abandons (for_each is_reverse range slot (meanings w ss) low))

-- what the frames do with what comes to them, from the one on top on, where the statements run in this setting
unfoldable pub denoted : UnitBodies → List Frame → Setting → Now → Asking Now
denoted bodies [] s now = ended now
denoted bodies (prefixing op ∷ fs) s now =
    by_value (on_value fails (λ v a. ended (prefix_of op v, a))) got (denoted bodies fs s) now
denoted bodies (linking ls ∷ fs) s now =
    by_value (on_value fails (linked (world bodies s) ls)) got (denoted bodies fs s) now
denoted bodies (operating op v ls ∷ fs) s now =
    by_value (on_value fails (λ u a. on_value fails (linked (world bodies s) ls) (result_of op v u, a))) got
    (denoted bodies fs s) now
denoted bodies (bounding range ∷ fs) s now =
    by_value (on_value fails (λ v a. ended (within range v, a))) got (denoted bodies fs s) now
denoted bodies (arguing values es ∷ fs) s now =
    by_value (on_value fails (λ v a. arguments (world bodies s) es (joined values v) a)) all (denoted bodies fs s) now
denoted bodies (passing callee ∷ fs) s now =
    by_values (on_value fails (called (world bodies s) callee)) all (denoted bodies fs s) now
denoted bodies (giving ∷ fs) s now = by_values given got (denoted bodies fs s) now
denoted bodies (assigning target ∷ fs) s now =
    by_value (on_value abandons (λ v a. ended (assigned target v a))) end (denoted bodies fs s) now
denoted bodies (branching ss more otherwise ∷ fs) s now =
    by_value (on_value abandons (branch_if (world bodies s) ss more otherwise)) end (denoted bodies fs s) now
denoted bodies (selecting alternatives ∷ fs) s now =
    by_value (on_value abandons (selected (world bodies s) alternatives)) end (denoted bodies fs s) now
denoted bodies (testing n e ss ∷ fs) s now =
    by_value (on_value abandons (turn_if (world bodies s) n e ss)) end (denoted bodies fs s) now
denoted bodies (turning n e ss ∷ fs) s now =
    by_end (again (turns n (value (world bodies s) e) (meanings (world bodies s) ss))) end (denoted bodies fs s) now
denoted bodies (lowering slot is_reverse range high ss ∷ fs) s now =
    by_value (on_value abandons (turns_from (world bodies s) slot is_reverse range high ss)) end (denoted bodies fs s) now
denoted bodies (raising slot is_reverse range low ss ∷ fs) s now =
    by_value (on_value abandons (for_each is_reverse range slot (meanings (world bodies s) ss) low)) end (denoted bodies fs s) now
denoted bodies (counting n is_reverse low high slot ss ∷ fs) s now =
    by_end (again (values_over n is_reverse low high slot (meanings (world bodies s) ss))) end (denoted bodies fs s) now
denoted bodies (leaving ∷ fs) s now =
    by_value (on_value abandons (λ v a. ended (exit_where v, a))) end (denoted bodies fs s) now
denoted bodies (returning ∷ fs) s now =
    by_value (on_value abandons (λ v a. ended (ends.Return (Some v), a))) end (denoted bodies fs s) now
denoted bodies (copying targets ∷ fs) s now =
    by_values (on_value abandons (λ values a. ended (copied_back targets 0 values a))) end (denoted bodies fs s) now
denoted bodies (sequencing ss ∷ fs) s now = by_end (go_on (meanings (world bodies s) ss)) end (denoted bodies fs s) now
denoted bodies (declaring target more ∷ fs) s now =
    by_value (on_value abandons (λ v a. go_on (elaborated (world bodies s) more) (assigned target v a))) end
    (denoted bodies fs s) now
denoted bodies (opening ss hs ∷ fs) s now =
    by_end (go_on (λ a. and_then (meanings (world bodies s) ss a) (handled (world bodies s) hs))) end (denoted bodies fs s) now
denoted bodies (handling hs ∷ fs) s now = by_end (handled (world bodies s) hs) end (denoted bodies fs s) now
denoted bodies (restoring exception ∷ fs) s now = denoted bodies fs (record s { handling = exception }) now
denoted bodies (closing body ∷ fs) s now = by_end (closed body) close (denoted bodies fs s) now
denoted bodies (resuming t a ∷ fs) s now = by_body (returned a) all (denoted bodies fs t) now
denoted bodies (answering a ∷ fs) s now = by_call (answered (world bodies s) a) all (denoted bodies fs s) now
denoted bodies (performing held values ∷ fs) s now =
    by_request (performed (started_by bodies held values)) out (denoted bodies fs s) now
denoted bodies (completing is_function t ∷ fs) s now = by_body (completes is_function) out (denoted bodies fs t) now
denoted bodies (exiting ∷ fs) s now = by_body exits exit (denoted bodies fs s) now
denoted bodies (quitting body ∷ fs) s now = by_end (over body) quit (denoted bodies fs s) now

-- what the run is at
pub data Control : Type 0 where
  -- an expression, the links of a chain behind its value so far, and arguments behind the values before them
  evaluates : Expression → Activation → Control
  links : Links → ℤ → Activation → Control
  argues : Expressions → List ℤ → Activation → Control
  -- a call with these values
  calls : Callee → List ℤ → Activation → Control
  -- a statement, and statements in their order
  runs : Statement → Activation → Control
  runs_all : Statements → Activation → Control
  -- branches, before the statements behind `else`
  tries : Branches → Statements → Activation → Control
  -- the alternatives for a value
  selects_of : Alternatives → ℤ → Activation → Control
  -- so many turns of a loop at most
  turns_of : (turns : ℕ) → Expression → Statements → Activation → Control
  -- the values of a loop's range of which so many are left
  counts : (left : ℕ) → (is_reverse : Bool) → ℤ → ℤ → (slot : ℕ) → Statements → Activation → Control
  -- declarations in their order
  declares : List Declaration → Activation → Control
  -- an operation of the setting's object, on these values, components and steps, where as many calls may nest as the setting says
  enters : ℕ → List ℤ → List ℤ → ℕ → Control
  -- the first request of a call of another object, and the resume of one that waits
  asks_of : Callee → List ℤ → Control
  waits : Callee → Control
  -- the end of a body that has come to this
  ends_of : Request → Outcome → Control
  -- the end of a task that has come to this
  quits_of : Outcome → Control
  -- a line that fires, whose handler is this operation of this object
  fires : (object operation : ℕ) → Control
  -- what comes to the frame on top
  comes : Now → Control

-- what the run still does, at a point and with these frames, where the statements run in this setting
unfoldable pub meant : UnitBodies → Control → List Frame → Setting → Asking Now
meant bodies (evaluates e a) fs s = and_then (value (world bodies s) e a) (got (denoted bodies fs s))
meant bodies (links ls v a) fs s = and_then (linked (world bodies s) ls v a) (got (denoted bodies fs s))
meant bodies (argues es values a) fs s = and_then (arguments (world bodies s) es values a) (all (denoted bodies fs s))
meant bodies (calls callee values a) fs s = and_then (called (world bodies s) callee values a) (all (denoted bodies fs s))
meant bodies (runs st a) fs s = and_then (meaning (world bodies s) st a) (end (denoted bodies fs s))
meant bodies (runs_all ss a) fs s = and_then (meanings (world bodies s) ss a) (end (denoted bodies fs s))
meant bodies (tries bs otherwise a) fs s =
    and_then (first_true (world bodies s) bs (meanings (world bodies s) otherwise) a) (end (denoted bodies fs s))
meant bodies (selects_of alternatives v a) fs s =
    and_then (selected (world bodies s) alternatives v a) (end (denoted bodies fs s))
meant bodies (turns_of n e ss a) fs s =
    and_then (turns n (value (world bodies s) e) (meanings (world bodies s) ss) a) (end (denoted bodies fs s))
meant bodies (counts n is_reverse low high slot ss a) fs s =
    and_then (values_over n is_reverse low high slot (meanings (world bodies s) ss) a) (end (denoted bodies fs s))
meant bodies (declares ds a) fs s = and_then (elaborated (world bodies s) ds a) (end (denoted bodies fs s))
meant bodies (enters operation values components steps) fs s =
    and_then (inner_at bodies s.object (outer_at bodies s.held) s.nested operation values components steps)
    (close (denoted bodies fs s))
meant bodies (asks_of callee values) fs s = and_then (asks callee values) (reach (denoted bodies fs s))
meant bodies (waits callee) fs s = and_then (settled callee reply.Waits) (reach (denoted bodies fs s))
meant bodies (ends_of request outcome) fs s = and_then (ends_by request outcome) (out (denoted bodies fs s))
meant bodies (quits_of outcome) fs s = and_then (quits outcome) (quit (denoted bodies fs s))
meant bodies (fires object operation) fs s = and_then (line_run bodies object operation) (out (denoted bodies fs s))
meant bodies (comes now) fs s = denoted bodies fs s now
