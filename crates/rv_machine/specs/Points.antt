-- Where a machine is, and what it still does (own).
use Rattle.std.specs.Prelude.{◌≡◌, ◌<◌, ◌≤◌, ℕ, List, Ok, Err}
use Rattle.rv_code.specs.Bodies.{UnitBodies}
use Rattle.rv_exec.specs.declared.activation.Activation.{Activation}
use Rattle.rv_exec.specs.declared.setting.Setting.{Setting}
use Rattle.rv_exec.specs.declared.end.Asked.{Asked}
use Rattle.rv_exec.specs.declared.end.Asked.TheVariants as asked
use Rattle.rv_exec.specs.declared.end.End.{End}
use Rattle.rv_exec.specs.declared.end.End.TheVariants as ends
use Rattle.rv_exec.specs.Calls.{Outcome, end_of}
use Rattle.rv_flat.specs.Trees.{Tree, tree_at, as_expression, as_expressions, as_links, as_statement, as_statements, as_branches, as_alternatives, as_declarations}
use Rattle.rv_frames.specs.Frames as f
use Rattle.rv_frames.specs.Frames.{Frame, Control, Now, denoted, meant}
use Rattle.rv_machine.specs.Heights.{highest, waiting_height}
use Rattle.rv_machine.specs.Moves.{moves_left, waiting_moves}
use Rattle.rv_machine.specs.declared.point.Point.{Point}
use Rattle.rv_machine.specs.declared.point.Point.TheVariants as point
use Rattle.rv_machine.specs.declared.point.Step.{Step}
use Rattle.rv_machine.specs.declared.point.Step.TheVariants as step

-- what the run is at within a body, where the parts stand in a table, with this activation
abbrev pub control_in : List Tree → Step → Activation → Control
control_in ts (step.Evaluates e) a = f.evaluates (as_expression (tree_at ts e)) a
control_in ts (step.Links ls v) a = f.links (as_links (tree_at ts ls)) v a
control_in ts (step.Argues es values) a = f.argues (as_expressions (tree_at ts es)) values a
control_in ts (step.Calls callee values) a = f.calls callee values a
control_in ts (step.Runs x) a = f.runs (as_statement (tree_at ts x)) a
control_in ts (step.RunsAll ss) a = f.runs_all (as_statements (tree_at ts ss)) a
control_in ts (step.Tries bs ss) a = f.tries (as_branches (tree_at ts bs)) (as_statements (tree_at ts ss)) a
control_in ts (step.Selects more v) a = f.selects_of (as_alternatives (tree_at ts more)) v a
control_in ts (step.Turns n e ss) a = f.turns_of n (as_expression (tree_at ts e)) (as_statements (tree_at ts ss)) a
control_in ts (step.Counts count ss) a =
    f.counts count.left count.values.is_reverse count.values.low count.values.high count.values.slot (as_statements (tree_at ts ss)) a
control_in ts (step.Declares ds) a = f.declares (as_declarations (tree_at ts ds)) a
control_in ts (step.Valued v) a = f.comes (f.valued v a)
control_in ts (step.Listed outcome) a = f.comes (f.listed outcome a)
control_in ts (step.Done e) a = f.comes (f.done e a)

-- what a request comes to that starts no body
abbrev pub given_by : Outcome → Asked
given_by (Ok given) = asked.Given given
given_by (Err why) = asked.Abandoned why

-- what it is at: what comes of a body or of a request comes with the components of the activation
abbrev pub control : List Tree → Point → Activation → Control
control ts (point.At x) a = control_in ts x a
control ts (point.Asks callee values) a = f.asks_of callee values
control ts (point.Waits callee) a = f.waits callee
control ts (point.Ends is_function outcome) a = f.ends_of (end_of is_function outcome a.components) outcome
control ts (point.Quits outcome) a = f.quits_of outcome
control ts (point.Fires object operation) a = f.fires object operation
control ts (point.Closes outcome) a = f.comes (f.closes outcome a.components a.steps)
control ts (point.Reaches outcome) a = f.comes (f.reaches (given_by outcome))
control ts (point.Starts object operation is_function) a = f.comes (f.reaches (asked.Started object operation is_function a.components))
control ts (point.Outside outcome) a = f.comes (f.outside outcome)
control ts (point.Exited e) a = f.comes (f.exited e a.components)
control ts (point.Quitted e) a = f.comes (f.quitted e)

-- from one point, with these frames and in this setting, to another: the run still does the same, less of it is left, and its stack
-- grows no higher than it did
pub record MovesOn (bodies : UnitBodies) (from : Control) (before : List Frame) (s : Setting) (to : Control) (after : List Frame) (t : Setting) : Type 0 where
  pub same : meant bodies from before s ≡ meant bodies to after t
  pub less : moves_left bodies to after t < moves_left bodies from before s
  pub low : (one : ℕ) → highest one bodies to after t ≤ highest one bodies from before s

-- what waits in these frames is the same in each setting
pub record Apart (bodies : UnitBodies) (fs : List Frame) : Type 0 where
  pub same : (s t : Setting) (now : Now) → denoted bodies fs s now ≡ denoted bodies fs t now
  pub left : (n m : ℕ) → waiting_moves bodies fs n ≡ waiting_moves bodies fs m
  pub low : (one n m : ℕ) → waiting_height one bodies fs n ≡ waiting_height one bodies fs m

-- such a move for any bodies and in each setting
pub record Leads (from : Control) (before : List Frame) (to : Control) (after : List Frame) : Type 0 where
  pub same : (bodies : UnitBodies) (s : Setting) → meant bodies from before s ≡ meant bodies to after s
  pub less : (bodies : UnitBodies) (s : Setting) → moves_left bodies to after s < moves_left bodies from before s
  pub low : (bodies : UnitBodies) (s : Setting) (one : ℕ) → highest one bodies to after s ≤ highest one bodies from before s

-- the same where it may also stand where it stood: no more of the run is left
pub record Keeps (from : Control) (before : List Frame) (to : Control) (after : List Frame) : Type 0 where
  pub same : (bodies : UnitBodies) (s : Setting) → meant bodies from before s ≡ meant bodies to after s
  pub less : (bodies : UnitBodies) (s : Setting) → moves_left bodies to after s ≤ moves_left bodies from before s
  pub low : (bodies : UnitBodies) (s : Setting) (one : ℕ) → highest one bodies to after s ≤ highest one bodies from before s

-- a move in one setting
pub record LeadsIn (s : Setting) (from : Control) (before : List Frame) (to : Control) (after : List Frame) : Type 0 where
  pub same : (bodies : UnitBodies) → meant bodies from before s ≡ meant bodies to after s
  pub less : (bodies : UnitBodies) → moves_left bodies to after s < moves_left bodies from before s
  pub low : (bodies : UnitBodies) (one : ℕ) → highest one bodies to after s ≤ highest one bodies from before s

-- one from one setting to another
pub record LeadsAcross (s : Setting) (from : Control) (before : List Frame) (t : Setting) (to : Control) (after : List Frame) : Type 0 where
  pub same : (bodies : UnitBodies) → meant bodies from before s ≡ meant bodies to after t
  pub less : (bodies : UnitBodies) → moves_left bodies to after t < moves_left bodies from before s
  pub low : (bodies : UnitBodies) (one : ℕ) → highest one bodies to after t ≤ highest one bodies from before s

-- how a loop ends whose turn ends so (5.7)
abbrev pub left_by : End → End
left_by ends.Exit = ends.Next
left_by other = other
