-- What comes to the frame on top is taken by it, and what the run still does stays (own).
use Rattle.std.specs.Prelude.{◌≡◌, ℕ, suc, ℤ, pos, Bool, true, false, List, ◌∷◌, Some, None, Ok, Err, slice_index_or}
use Rattle.rv_shape.specs.declared.kind.Range.{Range}
use Rattle.rv_event.specs.declared.entry.Exception.{Exception}
use Rattle.rv_event.specs.declared.entry.Answer.{Answer}
use Rattle.rv_event.specs.declared.entry.Request.{Request}
use Rattle.rv_code.specs.declared.expression.Callee.{Callee}
use Rattle.rv_code.specs.declared.expression.Prefix.{Prefix}
use Rattle.rv_code.specs.declared.expression.Operator.{Operator}
use Rattle.rv_code.specs.declared.statement.Target.{Target}
use Rattle.rv_code.specs.Expressions.{Expression, Expressions, Links}
use Rattle.rv_code.specs.Expressions as expression
use Rattle.rv_code.specs.Statements.{Statements, Branches, Alternatives}
use Rattle.rv_code.specs.Statements as statement
use Rattle.rv_code.specs.Bodies.{Handler, Body, UnitBodies}
use Rattle.rv_exec.specs.declared.activation.Activation.{Activation}
use Rattle.rv_exec.specs.declared.setting.Setting.{Setting}
use Rattle.rv_exec.specs.declared.end.Cause.{Cause}
use Rattle.rv_exec.specs.declared.end.Cause.TheVariants as cause
use Rattle.rv_exec.specs.declared.end.End.{End}
use Rattle.rv_exec.specs.declared.end.End.TheVariants as ends
use Rattle.rv_exec.specs.declared.end.Asked.{Asked}
use Rattle.rv_exec.specs.declared.end.Asked.TheVariants as asked
use Rattle.rv_exec.specs.declared.end.Reply.TheVariants as reply
use Rattle.rv_exec.specs.Asking.{asking, and_then}
use Rattle.rv_exec.specs.Activations.{assigned, joined, stepped, refilled}
use Rattle.rv_exec.specs.Operators.{is_true, prefix_of, result_of, within}
use Rattle.rv_exec.specs.Choices.{handler_of}
use Rattle.rv_exec.specs.Calls.{Outcome, settled, replied, request_of, is_stuck, end_of, completed}
use Rattle.rv_exec.specs.Blocks.{outcome_of}
use Rattle.rv_frames.specs.Frames.{Frame, prefixing, linking, operating, bounding, arguing, passing, giving, assigning, branching, selecting, testing, turning, lowering, raising, sequencing, opening, handling, restoring, closing, resuming, answering, performing, completing, valued, listed, done, closes, reaches, outside, evaluates, links, argues, calls, runs_all, tries, selects_of, turns_of, enters, asks_of, waits, ends_of, comes, reach, body_setting, denoted, meant}

-- expressions and arguments come to their values, and the frames of expressions take them
pub record ExpressionsArrive (bodies : UnitBodies) (fs : List Frame) (s : Setting) : Type 0 where
  -- what is a value at once (4.2, 4.1)
  pub literal :
      (n : ℤ) (a : Activation)
      → meant bodies (evaluates (expression.literal n) a) fs s
      ≡ meant bodies (comes (valued (Ok n) a)) fs s
  pub variable :
      (slot : ℕ) (a : Activation)
      → meant bodies (evaluates (expression.variable slot) a) fs s
      ≡ meant bodies (comes (valued (Ok (slice_index_or a.slots slot (pos 0))) a)) fs s
  pub component :
      (index : ℕ) (a : Activation)
      → meant bodies (evaluates (expression.component index) a) fs s
      ≡ meant bodies (comes (valued (Ok (slice_index_or a.components index (pos 0))) a)) fs s
  -- the operand of a prefix (4.5.6)
  pub prefix :
      (op : Prefix) (v : ℤ) (a : Activation)
      → meant bodies (comes (valued (Ok v) a)) (prefixing op ∷ fs) s
      ≡ meant bodies (comes (valued (prefix_of op v) a)) fs s
  pub prefix_fails :
      (op : Prefix) (why : Cause) (a : Activation)
      → meant bodies (comes (valued (Err why) a)) (prefixing op ∷ fs) s
      ≡ meant bodies (comes (valued (Err why) a)) fs s
  -- the first operand of a chain, and the value behind its last link
  pub chain :
      (ls : Links) (v : ℤ) (a : Activation)
      → meant bodies (comes (valued (Ok v) a)) (linking ls ∷ fs) s
      ≡ meant bodies (links ls v a) fs s
  pub chain_fails :
      (ls : Links) (why : Cause) (a : Activation)
      → meant bodies (comes (valued (Err why) a)) (linking ls ∷ fs) s
      ≡ meant bodies (comes (valued (Err why) a)) fs s
  pub last_link :
      (v : ℤ) (a : Activation)
      → meant bodies (links expression.no_links v a) fs s
      ≡ meant bodies (comes (valued (Ok v) a)) fs s
  -- the right operand: the operator gives a value, or raises (4.5)
  pub operand :
      (op : Operator) (u : ℤ) (ls : Links) (v z : ℤ) (a : Activation)
      → result_of op u v ≡ Ok z
      → meant bodies (comes (valued (Ok v) a)) (operating op u ls ∷ fs) s
      ≡ meant bodies (links ls z a) fs s
  pub operand_raises :
      (op : Operator) (u : ℤ) (ls : Links) (v : ℤ) (why : Cause) (a : Activation)
      → result_of op u v ≡ Err why
      → meant bodies (comes (valued (Ok v) a)) (operating op u ls ∷ fs) s
      ≡ meant bodies (comes (valued (Err why) a)) fs s
  pub operand_fails :
      (op : Operator) (u : ℤ) (ls : Links) (why : Cause) (a : Activation)
      → meant bodies (comes (valued (Err why) a)) (operating op u ls ∷ fs) s
      ≡ meant bodies (comes (valued (Err why) a)) fs s
  -- the value whose range is checked (3.5, 4.6)
  pub bounds :
      (range : Range) (v : ℤ) (a : Activation)
      → meant bodies (comes (valued (Ok v) a)) (bounding range ∷ fs) s
      ≡ meant bodies (comes (valued (within range v) a)) fs s
  pub bounds_fail :
      (range : Range) (why : Cause) (a : Activation)
      → meant bodies (comes (valued (Err why) a)) (bounding range ∷ fs) s
      ≡ meant bodies (comes (valued (Err why) a)) fs s
  -- an argument, and the values behind the last one (6.4.1)
  pub argument :
      (values : List ℤ) (es : Expressions) (v : ℤ) (a : Activation)
      → meant bodies (comes (valued (Ok v) a)) (arguing values es ∷ fs) s
      ≡ meant bodies (argues es (joined values v) a) fs s
  pub argument_fails :
      (values : List ℤ) (es : Expressions) (why : Cause) (a : Activation)
      → meant bodies (comes (valued (Err why) a)) (arguing values es ∷ fs) s
      ≡ meant bodies (comes (listed (Err why) a)) fs s
  pub last_argument :
      (values : List ℤ) (a : Activation)
      → meant bodies (argues expression.no_expressions values a) fs s
      ≡ meant bodies (comes (listed (Ok values) a)) fs s
  -- the arguments of a call (6.4)
  pub arguments :
      (callee : Callee) (values : List ℤ) (a : Activation)
      → meant bodies (comes (listed (Ok values) a)) (passing callee ∷ fs) s
      ≡ meant bodies (calls callee values a) fs s
  pub arguments_fail :
      (callee : Callee) (why : Cause) (a : Activation)
      → meant bodies (comes (listed (Err why) a)) (passing callee ∷ fs) s
      ≡ meant bodies (comes (listed (Err why) a)) fs s
  -- what a call in an expression gives
  pub call :
      (values : List ℤ) (a : Activation)
      → meant bodies (comes (listed (Ok values) a)) (giving ∷ fs) s
      ≡ meant bodies (comes (valued (Ok (slice_index_or values 0 (pos 0))) a)) fs s
  pub call_fails :
      (why : Cause) (a : Activation)
      → meant bodies (comes (listed (Err why) a)) (giving ∷ fs) s
      ≡ meant bodies (comes (valued (Err why) a)) fs s

-- values and ends come to the frames of statements
pub record StatementsArrive (bodies : UnitBodies) (fs : List Frame) (s : Setting) : Type 0 where
  -- the expression of an assignment (5.2)
  pub assignment :
      (target : Target) (v : ℤ) (a : Activation) (e : End) (b : Activation)
      → (e, b) ≡ assigned target v a
      → meant bodies (comes (valued (Ok v) a)) (assigning target ∷ fs) s
      ≡ meant bodies (comes (done e b)) fs s
  pub assignment_fails :
      (target : Target) (why : Cause) (a : Activation)
      → meant bodies (comes (valued (Err why) a)) (assigning target ∷ fs) s
      ≡ meant bodies (comes (done (ends.Abandoned why) a)) fs s
  -- a condition (5.3)
  pub branch :
      (ss otherwise : Statements) (bs : Branches) (v : ℤ) (a : Activation)
      → is_true v ≡ true
      → meant bodies (comes (valued (Ok v) a)) (branching ss bs otherwise ∷ fs) s
      ≡ meant bodies (runs_all ss a) fs s
  pub next_branch :
      (ss otherwise : Statements) (bs : Branches) (v : ℤ) (a : Activation)
      → is_true v ≡ false
      → meant bodies (comes (valued (Ok v) a)) (branching ss bs otherwise ∷ fs) s
      ≡ meant bodies (tries bs otherwise a) fs s
  pub branch_fails :
      (ss otherwise : Statements) (bs : Branches) (why : Cause) (a : Activation)
      → meant bodies (comes (valued (Err why) a)) (branching ss bs otherwise ∷ fs) s
      ≡ meant bodies (comes (done (ends.Abandoned why) a)) fs s
  pub last_branch :
      (otherwise : Statements) (a : Activation)
      → meant bodies (tries statement.no_branches otherwise a) fs s
      ≡ meant bodies (runs_all otherwise a) fs s
  -- the expression of a case statement (5.4)
  pub selection :
      (more : Alternatives) (v : ℤ) (a : Activation)
      → meant bodies (comes (valued (Ok v) a)) (selecting more ∷ fs) s
      ≡ meant bodies (selects_of more v a) fs s
  pub selection_fails :
      (more : Alternatives) (why : Cause) (a : Activation)
      → meant bodies (comes (valued (Err why) a)) (selecting more ∷ fs) s
      ≡ meant bodies (comes (done (ends.Abandoned why) a)) fs s
  -- the condition of a loop: a turn takes a step (5.5)
  pub turn :
      (n : ℕ) (e : Expression) (ss : Statements) (v : ℤ) (a b : Activation)
      → is_true v ≡ true → stepped a ≡ Some b
      → meant bodies (comes (valued (Ok v) a)) (testing n e ss ∷ fs) s
      ≡ meant bodies (runs_all ss b) (turning n e ss ∷ fs) s
  pub turn_overruns :
      (n : ℕ) (e : Expression) (ss : Statements) (v : ℤ) (a : Activation)
      → is_true v ≡ true → stepped a ≡ None
      → meant bodies (comes (valued (Ok v) a)) (testing n e ss ∷ fs) s
      ≡ meant bodies (comes (done (ends.Abandoned cause.Overrun) a)) fs s
  pub turns_over :
      (n : ℕ) (e : Expression) (ss : Statements) (v : ℤ) (a : Activation)
      → is_true v ≡ false
      → meant bodies (comes (valued (Ok v) a)) (testing n e ss ∷ fs) s
      ≡ meant bodies (comes (done ends.Next a)) fs s
  -- the end of a turn (5.5, 5.7)
  pub next_turn :
      (n : ℕ) (e : Expression) (ss : Statements) (a : Activation)
      → meant bodies (comes (done ends.Next a)) (turning n e ss ∷ fs) s
      ≡ meant bodies (turns_of n e ss a) fs s
  pub loop_left :
      (n : ℕ) (e : Expression) (ss : Statements) (a : Activation)
      → meant bodies (comes (done ends.Exit a)) (turning n e ss ∷ fs) s
      ≡ meant bodies (comes (done ends.Next a)) fs s
  pub loop_abandoned :
      (n : ℕ) (e : Expression) (ss : Statements) (why : Cause) (a : Activation)
      → meant bodies (comes (done (ends.Abandoned why) a)) (turning n e ss ∷ fs) s
      ≡ meant bodies (comes (done (ends.Abandoned why) a)) fs s
  -- the lower bound of a loop's range (5.5)
  pub lower_bound :
      (slot : ℕ) (is_reverse : Bool) (range : Range) (high : Expression) (ss : Statements) (v : ℤ) (a : Activation)
      → meant bodies (comes (valued (Ok v) a)) (lowering slot is_reverse range high ss ∷ fs) s
      ≡ meant bodies (evaluates high a) (raising slot is_reverse range v ss ∷ fs) s
  -- the end of a statement, and of the last one (5.1)
  pub statement_done :
      (ss : Statements) (a : Activation)
      → meant bodies (comes (done ends.Next a)) (sequencing ss ∷ fs) s
      ≡ meant bodies (runs_all ss a) fs s
  pub statement_left :
      (ss : Statements) (a : Activation)
      → meant bodies (comes (done ends.Exit a)) (sequencing ss ∷ fs) s
      ≡ meant bodies (comes (done ends.Exit a)) fs s
  pub statement_abandoned :
      (ss : Statements) (why : Cause) (a : Activation)
      → meant bodies (comes (done (ends.Abandoned why) a)) (sequencing ss ∷ fs) s
      ≡ meant bodies (comes (done (ends.Abandoned why) a)) fs s
  pub last_statement :
      (a : Activation)
      → meant bodies (runs_all statement.no_statements a) fs s
      ≡ meant bodies (comes (done ends.Next a)) fs s
  -- the end of the declarations (11.4)
  pub declared :
      (ss : Statements) (hs : List Handler) (a : Activation)
      → meant bodies (comes (done ends.Next a)) (opening ss hs ∷ fs) s
      ≡ meant bodies (runs_all ss a) (handling hs ∷ fs) s
  -- an exception that a handler names (11.4)
  pub handler :
      (hs : List Handler) (exception : Exception) (ss : Statements) (a : Activation)
      → handler_of hs exception ≡ Some ss
      → meant bodies (comes (done (ends.Abandoned (cause.Raised exception)) a)) (handling hs ∷ fs) s
      ≡ meant bodies (runs_all ss a) (restoring s.handling ∷ fs) (record s { handling = Some exception })

-- answers come to what asked, and what bodies come to goes to their calls
pub record CallsArrive (bodies : UnitBodies) (fs : List Frame) (s : Setting) : Type 0 where
  -- the end of a body's statements (6.4.1, 6.5)
  pub body :
      (body : Body) (e : End) (a : Activation)
      → meant bodies (comes (done e a)) (closing body ∷ fs) s
      ≡ meant bodies (comes (closes (outcome_of body e a) a.components a.steps)) fs s
  -- what the body of a call inside the object comes to
  pub inner_call :
      (t : Setting) (a : Activation) (outcome : Outcome) (components : List ℤ) (steps : ℕ)
      → meant bodies (comes (closes outcome components steps)) (resuming t a ∷ fs) s
      ≡ meant bodies (comes (listed outcome (record a { components = components; steps = steps }))) fs t
  -- a call of another object asks, and its answer settles it, or it waits (9.5)
  pub ask :
      (callee : Callee) (values : List ℤ)
      → meant bodies (asks_of callee values) fs s
      ≡ asking (request_of callee values) (λ answer.
      and_then (settled callee (replied callee answer)) (reach (denoted bodies fs s)))
  pub ask_settled :
      (callee : Callee) (answer : Answer) (what : Asked)
      → replied callee answer ≡ reply.Settled what
      → and_then (settled callee (replied callee answer)) (reach (denoted bodies fs s))
      ≡ meant bodies (comes (reaches what)) fs s
  pub ask_waits :
      (callee : Callee) (answer : Answer)
      → replied callee answer ≡ reply.Waits
      → and_then (settled callee (replied callee answer)) (reach (denoted bodies fs s))
      ≡ meant bodies (waits callee) fs s
  -- the body of another object's operation starts
  pub started :
      (held object operation : ℕ) (is_function : Bool) (values components : List ℤ)
      → meant bodies (comes (reaches (asked.Started object operation is_function components)))
      (performing (suc held) values ∷ fs) s
      ≡ meant bodies (enters operation values components 100000) (completing is_function s ∷ fs) (body_setting object held)
  -- that body is over, and its end is asked
  pub ended :
      (is_function : Bool) (t : Setting) (outcome : Outcome) (components : List ℤ) (steps : ℕ)
      → meant bodies (comes (closes outcome components steps)) (completing is_function t ∷ fs) s
      ≡ meant bodies (ends_of (end_of is_function outcome components) outcome) fs t
  pub end :
      (request : Request) (outcome : Outcome)
      → is_stuck outcome ≡ false
      → meant bodies (ends_of request outcome) fs s
      ≡ asking request (λ answer. meant bodies (comes (outside (completed outcome answer))) fs s)
  -- what a call of another object comes to
  pub outer_call :
      (a : Activation) (outcome : Outcome)
      → meant bodies (comes (outside outcome)) (answering a ∷ fs) s
      ≡ meant bodies (comes (listed outcome (refilled s.is_task a))) fs s

abbrev pub ArrivalsKeepTheMeaning : Type 0
ArrivalsKeepTheMeaning =
    (bodies : UnitBodies) (fs : List Frame) (s : Setting)
    → ExpressionsArrive bodies fs s × StatementsArrive bodies fs s × CallsArrive bodies fs s
