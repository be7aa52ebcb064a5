-- What waits is pushed on the stack, and what the run still does stays (own).
use Rattle.std.specs.Prelude.{◌≡◌, ℕ, suc, ℤ, Bool, true, false, List, [], ◌∷◌, Some, None, Err}
use Rattle.rv_shape.specs.declared.kind.Range.{Range}
use Rattle.rv_code.specs.Callees.{of_object}
use Rattle.rv_code.specs.declared.expression.Callee.{Callee}
use Rattle.rv_code.specs.declared.expression.Callee.TheVariants as callee
use Rattle.rv_code.specs.declared.expression.Prefix.{Prefix}
use Rattle.rv_code.specs.declared.expression.Operator.{Operator}
use Rattle.rv_code.specs.declared.statement.Target.{Target}
use Rattle.rv_code.specs.Expressions.{Expression, Expressions, Links}
use Rattle.rv_code.specs.Expressions as expression
use Rattle.rv_code.specs.Statements.{Statement, Statements, Branches, Alternatives}
use Rattle.rv_code.specs.Statements as statement
use Rattle.rv_code.specs.Bodies.{Declaration, Body, UnitBodies}
use Rattle.rv_exec.specs.declared.activation.Activation.{Activation}
use Rattle.rv_exec.specs.declared.setting.Setting.{Setting}
use Rattle.rv_exec.specs.declared.end.Cause.TheVariants as cause
use Rattle.rv_exec.specs.declared.end.End.TheVariants as ends
use Rattle.rv_exec.specs.Activations.{stepped, spent, steps_left, put_slot, value_before}
use Rattle.rv_exec.specs.Operators.{decides}
use Rattle.rv_exec.specs.Bodies.{operation_of}
use Rattle.rv_exec.specs.Calls.{internal, is_past}
use Rattle.rv_frames.specs.Frames.{Frame, prefixing, linking, operating, bounding, arguing, passing, giving, assigning, branching, selecting, testing, lowering, counting, leaving, returning, copying, sequencing, declaring, opening, closing, resuming, answering, performing, listed, done, evaluates, links, argues, calls, runs, runs_all, tries, turns_of, counts, declares, enters, asks_of, comes, begun, inner_setting, meant}

-- the operands of an expression, and the arguments of a call, are evaluated before what waits for them (4.4, 6.4.1)
pub record ExpressionsPush (bodies : UnitBodies) (fs : List Frame) (s : Setting) : Type 0 where
  -- the operand of a prefix (4.5.6)
  pub prefix :
      (op : Prefix) (e : Expression) (a : Activation)
      → meant bodies (evaluates (expression.prefixed op e) a) fs s
      ≡ meant bodies (evaluates e a) (prefixing op ∷ fs) s
  -- the first operand of a chain
  pub chain :
      (e : Expression) (ls : Links) (a : Activation)
      → meant bodies (evaluates (expression.chain e ls) a) fs s
      ≡ meant bodies (evaluates e a) (linking ls ∷ fs) s
  -- the right operand of the next link, where the value so far doesn't decide (4.5.1)
  pub link :
      (op : Operator) (e : Expression) (ls : Links) (v : ℤ) (a : Activation)
      → decides op v ≡ false
      → meant bodies (links (expression.and_link op e ls) v a) fs s
      ≡ meant bodies (evaluates e a) (operating op v ls ∷ fs) s
  -- where it decides, the operand is skipped
  pub skipped :
      (op : Operator) (e : Expression) (ls : Links) (v : ℤ) (a : Activation)
      → decides op v ≡ true
      → meant bodies (links (expression.and_link op e ls) v a) fs s
      ≡ meant bodies (links ls v a) fs s
  -- the value whose range is checked (3.5, 4.6)
  pub bounds :
      (range : Range) (e : Expression) (a : Activation)
      → meant bodies (evaluates (expression.within range e) a) fs s
      ≡ meant bodies (evaluates e a) (bounding range ∷ fs) s
  -- the arguments of a call in an expression (6.4)
  pub call :
      (callee : Callee) (es : Expressions) (a : Activation)
      → meant bodies (evaluates (expression.call callee es) a) fs s
      ≡ meant bodies (argues es [] a) (passing callee ∷ giving ∷ fs) s
  -- the next argument
  pub argument :
      (e : Expression) (es : Expressions) (values : List ℤ) (a : Activation)
      → meant bodies (argues (expression.and_expression e es) values a) fs s
      ≡ meant bodies (evaluates e a) (arguing values es ∷ fs) s

-- the parts of a statement are evaluated, or run, before what waits for them (5.1 to 5.7, 6.4.1, 6.5)
pub record StatementsPush (bodies : UnitBodies) (fs : List Frame) (s : Setting) : Type 0 where
  -- an assignment (5.2)
  pub assignment :
      (target : Target) (e : Expression) (a : Activation)
      → meant bodies (runs (statement.assign target e) a) fs s
      ≡ meant bodies (evaluates e a) (assigning target ∷ fs) s
  -- an if statement, and its next branch (5.3)
  pub choice :
      (bs : Branches) (otherwise : Statements) (a : Activation)
      → meant bodies (runs (statement.choice bs otherwise) a) fs s
      ≡ meant bodies (tries bs otherwise a) fs s
  pub branch :
      (e : Expression) (ss otherwise : Statements) (bs : Branches) (a : Activation)
      → meant bodies (tries (statement.and_branch e ss bs) otherwise a) fs s
      ≡ meant bodies (evaluates e a) (branching ss bs otherwise ∷ fs) s
  -- a case statement (5.4)
  pub selection :
      (e : Expression) (more : Alternatives) (a : Activation)
      → meant bodies (runs (statement.selection e more) a) fs s
      ≡ meant bodies (evaluates e a) (selecting more ∷ fs) s
  -- a loop while a condition is True, and its next turn (5.5)
  pub while_loop :
      (e : Expression) (ss : Statements) (a : Activation)
      → meant bodies (runs (statement.while_loop e ss) a) fs s
      ≡ meant bodies (turns_of (suc (steps_left a)) e ss a) fs s
  pub turn :
      (n : ℕ) (e : Expression) (ss : Statements) (a : Activation)
      → meant bodies (turns_of (suc n) e ss a) fs s
      ≡ meant bodies (evaluates e a) (testing n e ss ∷ fs) s
  -- a loop over a range, and the statements for its next value (5.5)
  pub for_loop :
      (slot : ℕ) (is_reverse : Bool) (range : Range) (low high : Expression) (ss : Statements) (a : Activation)
      → meant bodies (runs (statement.for_loop slot is_reverse range low high ss) a) fs s
      ≡ meant bodies (evaluates low a) (lowering slot is_reverse range high ss ∷ fs) s
  pub counted :
      (n : ℕ) (is_reverse : Bool) (low high : ℤ) (slot : ℕ) (ss : Statements) (a b : Activation)
      → stepped a ≡ Some b
      → meant bodies (counts (suc n) is_reverse low high slot ss a) fs s
      ≡ meant bodies (runs_all ss (put_slot slot (value_before is_reverse low high n) b))
      (counting n is_reverse low high slot ss ∷ fs) s
  -- an exit (5.7)
  pub exit_when :
      (e : Expression) (a : Activation)
      → meant bodies (runs (statement.exit_when e) a) fs s
      ≡ meant bodies (evaluates e a) (leaving ∷ fs) s
  -- a return (6.5)
  pub return_value :
      (e : Expression) (a : Activation)
      → meant bodies (runs (statement.returns_value e) a) fs s
      ≡ meant bodies (evaluates e a) (returning ∷ fs) s
  -- a call statement (6.4)
  pub call :
      (callee : Callee) (es : Expressions) (targets : List Target) (a : Activation)
      → meant bodies (runs (statement.calls callee es targets) a) fs s
      ≡ meant bodies (argues es [] a) (passing callee ∷ copying targets ∷ fs) s
  -- the next statement takes a step; where none is left, it is an overrun (own)
  pub next_statement :
      (x : Statement) (ss : Statements) (a b : Activation)
      → stepped a ≡ Some b
      → meant bodies (runs_all (statement.and_statement x ss) a) fs s
      ≡ meant bodies (runs x b) (sequencing ss ∷ fs) s
  pub overrun :
      (x : Statement) (ss : Statements) (a : Activation)
      → stepped a ≡ None
      → meant bodies (runs_all (statement.and_statement x ss) a) fs s
      ≡ meant bodies (comes (done (ends.Abandoned cause.Overrun) a)) fs s

-- the parts of a body, and the body of a call, run before what waits for them (3.11, 6.4, 9.5)
pub record CallsPush (bodies : UnitBodies) (fs : List Frame) (s : Setting) : Type 0 where
  -- a declaration (3.11)
  pub declaration :
      (d : Declaration) (ds : List Declaration) (a : Activation)
      → meant bodies (declares (d ∷ ds) a) fs s
      ≡ meant bodies (evaluates d.initial a) (declaring d.target ds ∷ fs) s
  -- a call inside the object (6.4)
  pub inner_call :
      (operation : ℕ) (values : List ℤ) (a : Activation)
      → meant bodies (calls (callee.Internal operation) values a) fs s
      ≡ meant bodies (enters operation values a.components a.steps) (resuming s a ∷ fs) s
  -- the same, where its body is there and one more call may nest: the body's declarations begin
  pub inner_body :
      (operation : ℕ) (values : List ℤ) (a : Activation) (nested : ℕ) (body : Body)
      → s.nested ≡ suc nested → operation_of bodies s.object operation ≡ Some body
      → meant bodies (calls (callee.Internal operation) values a) fs s
      ≡ meant bodies (declares body.declarations (begun body values a))
      (opening body.statements body.handlers ∷ closing body ∷ resuming s a ∷ fs) (inner_setting s nested)
  -- a call that is asked of the host, where the actor may make it: an entry of the same object is one of its object (9.5)
  pub outer_call :
      (callee at : Callee) (values : List ℤ) (a b : Activation)
      → internal callee ≡ None → spent s.is_task a ≡ Some b → at ≡ of_object s.object callee → is_past s.held at ≡ false
      → meant bodies (calls callee values a) fs s
      ≡ meant bodies (asks_of at values) (performing s.held values ∷ answering b ∷ fs) s
  -- a task that has no request left makes none (own)
  pub no_request_left :
      (callee : Callee) (values : List ℤ) (a : Activation)
      → internal callee ≡ None → spent s.is_task a ≡ None
      → meant bodies (calls callee values a) fs s
      ≡ meant bodies (comes (listed (Err cause.Overrun) a)) fs s

abbrev pub PushesKeepTheMeaning : Type 0
PushesKeepTheMeaning =
    (bodies : UnitBodies) (fs : List Frame) (s : Setting)
    → ExpressionsPush bodies fs s × StatementsPush bodies fs s × CallsPush bodies fs s
