-- How high a run's stack grows (own): of its frames, where each counts 1, or of the activations that are set aside, where a call's
-- frame counts 1 and each other one 0. `one` is what a frame counts that is no call's, and `call` how high a call's body grows.
use Rattle.std.specs.Prelude.{ℕ, zero, suc, ◌+◌, ◌*◌, max, List, [], ◌∷◌, Option, Some, None}
use Rattle.rv_code.specs.Expressions as e
use Rattle.rv_code.specs.Expressions.{Expression, Expressions, Links}
use Rattle.rv_code.specs.Statements as s
use Rattle.rv_code.specs.Statements.{Statement, Statements, Branches, Alternatives}
use Rattle.rv_code.specs.Bodies.{Declaration, Handler, Body, UnitBodies}
use Rattle.rv_exec.specs.declared.setting.Setting.{Setting}
use Rattle.rv_frames.specs.Frames as f
use Rattle.rv_frames.specs.Frames.{Frame, Control}
use Rattle.rv_machine.specs.Moves.{level, level_below}

-- above an expression, above links and above arguments
unfoldable mutual
  pub expression_height : ℕ → ℕ → Expression → ℕ
  expression_height one call (e.literal n) = 0
  expression_height one call (e.variable slot) = 0
  expression_height one call (e.component index) = 0
  expression_height one call (e.prefixed op x) = one + expression_height one call x
  expression_height one call (e.chain x ls) = max (one + expression_height one call x) (links_height one call ls)
  expression_height one call (e.within range x) = one + expression_height one call x
  expression_height one call (e.call callee es) = one + one + max (expressions_height one call es) (1 + call)

  pub links_height : ℕ → ℕ → Links → ℕ
  links_height one call e.no_links = 0
  links_height one call (e.and_link op x ls) = max (one + expression_height one call x) (links_height one call ls)

  pub expressions_height : ℕ → ℕ → Expressions → ℕ
  expressions_height one call e.no_expressions = 0
  expressions_height one call (e.and_expression x es) = max (one + expression_height one call x) (expressions_height one call es)

-- above statements, branches and alternatives
unfoldable mutual
  pub statement_height : ℕ → ℕ → Statement → ℕ
  statement_height one call s.null_statement = 0
  statement_height one call (s.assign target x) = one + expression_height one call x
  statement_height one call (s.choice bs otherwise) = max (branches_height one call bs) (statements_height one call otherwise)
  statement_height one call (s.selection x more) = max (one + expression_height one call x) (alternatives_height one call more)
  statement_height one call (s.while_loop x ss) = one + max (expression_height one call x) (statements_height one call ss)
  statement_height one call (s.for_loop slot is_reverse range low high ss) =
      one + max (expression_height one call low) (max (expression_height one call high) (statements_height one call ss))
  statement_height one call (s.exit_when x) = one + expression_height one call x
  statement_height one call s.returns = 0
  statement_height one call (s.returns_value x) = one + expression_height one call x
  statement_height one call (s.raises exception) = 0
  statement_height one call s.reraises = 0
  statement_height one call (s.calls callee es targets) = one + one + max (expressions_height one call es) (1 + call)

  pub statements_height : ℕ → ℕ → Statements → ℕ
  statements_height one call s.no_statements = 0
  statements_height one call (s.and_statement x ss) = max (one + statement_height one call x) (statements_height one call ss)

  pub branches_height : ℕ → ℕ → Branches → ℕ
  branches_height one call s.no_branches = 0
  branches_height one call (s.and_branch x ss bs) =
      max (one + expression_height one call x) (max (statements_height one call ss) (branches_height one call bs))

  pub alternatives_height : ℕ → ℕ → Alternatives → ℕ
  alternatives_height one call s.no_alternatives = 0
  alternatives_height one call (s.and_alternative choices ss more) = max (statements_height one call ss) (alternatives_height one call more)

unfoldable pub declarations_height : ℕ → ℕ → List Declaration → ℕ
declarations_height one call [] = 0
declarations_height one call (d ∷ ds) = max (one + expression_height one call d.initial) (declarations_height one call ds)

unfoldable pub handlers_height : ℕ → ℕ → List Handler → ℕ
handlers_height one call [] = 0
handlers_height one call (h ∷ hs) = max (statements_height one call h.statements) (handlers_height one call hs)

-- above a body that begins: its end waits, and its statements or its handlers do
abbrev pub body_height : ℕ → ℕ → Body → ℕ
body_height one call body =
    one + one + max (declarations_height one call body.declarations) (max (statements_height one call body.statements) (handlers_height one call body.handlers))

-- the highest of the bodies of an object, of all objects and of all tasks
unfoldable pub operations_height : ℕ → ℕ → List Body → ℕ
operations_height one call [] = 0
operations_height one call (b ∷ bs) = max (body_height one call b) (operations_height one call bs)

unfoldable pub objects_height : ℕ → ℕ → List (List Body) → ℕ
objects_height one call [] = 0
objects_height one call (o ∷ os) = max (operations_height one call o) (objects_height one call os)

unfoldable pub tasks_height : ℕ → ℕ → List (Option Body) → ℕ
tasks_height one call [] = 0
tasks_height one call (None ∷ ts) = tasks_height one call ts
tasks_height one call (Some b ∷ ts) = max (body_height one call b) (tasks_height one call ts)

-- above a body of an object at a level: what it calls is at the level below
unfoldable pub called_height : ℕ → UnitBodies → ℕ → ℕ
called_height one bodies zero = 0
called_height one bodies (suc n) = max (called_height one bodies n) (objects_height one (called_height one bodies n) bodies.objects)

-- what a frame counts, and what all of them do
abbrev pub frame_weight : ℕ → Frame → ℕ
frame_weight one (f.resuming t a) = 1
frame_weight one (f.answering a) = 1
frame_weight one other = one

abbrev pub weight : ℕ → List Frame → ℕ
weight one [] = 0
weight one (x ∷ fs) = frame_weight one x + weight one fs

-- above the frames below it, as a frame waits and as it is taken
abbrev pub frame_height : ℕ → UnitBodies → ℕ → Frame → ℕ
frame_height one bodies call (f.prefixing op) = one
frame_height one bodies call (f.linking ls) = max one (links_height one call ls)
frame_height one bodies call (f.operating op v ls) = max one (links_height one call ls)
frame_height one bodies call (f.bounding range) = one
frame_height one bodies call (f.arguing values es) = max one (expressions_height one call es)
frame_height one bodies call (f.passing callee) = 1 + one + call
frame_height one bodies call f.giving = one
frame_height one bodies call (f.assigning target) = one
frame_height one bodies call (f.branching ss bs otherwise) =
    max one (max (statements_height one call ss) (max (branches_height one call bs) (statements_height one call otherwise)))
frame_height one bodies call (f.selecting more) = max one (alternatives_height one call more)
frame_height one bodies call (f.testing n x ss) = one + max (expression_height one call x) (statements_height one call ss)
frame_height one bodies call (f.turning n x ss) = one + max (expression_height one call x) (statements_height one call ss)
frame_height one bodies call (f.lowering slot is_reverse range high ss) = one + max (expression_height one call high) (statements_height one call ss)
frame_height one bodies call (f.raising slot is_reverse range low ss) = one + statements_height one call ss
frame_height one bodies call (f.counting n is_reverse low high slot ss) = one + statements_height one call ss
frame_height one bodies call f.leaving = one
frame_height one bodies call f.returning = one
frame_height one bodies call (f.copying targets) = one
frame_height one bodies call (f.sequencing ss) = max one (statements_height one call ss)
frame_height one bodies call (f.declaring target ds) = max one (declarations_height one call ds)
frame_height one bodies call (f.opening ss hs) = one + max (statements_height one call ss) (handlers_height one call hs)
frame_height one bodies call (f.handling hs) = one + handlers_height one call hs
frame_height one bodies call (f.restoring exception) = one
frame_height one bodies call (f.closing body) = one
frame_height one bodies call (f.resuming t a) = 1
frame_height one bodies call (f.answering a) = 1
frame_height one bodies call (f.performing held values) = one + called_height one bodies (held * 66)
frame_height one bodies call (f.completing is_function t) = one
frame_height one bodies call f.exiting = one
frame_height one bodies call (f.quitting body) = one

-- the highest that the stack grows while these frames wait and are taken, from the one on top on, at this level
abbrev pub waiting_height : ℕ → UnitBodies → List Frame → ℕ → ℕ
waiting_height one bodies [] n = 0
waiting_height one bodies (x ∷ fs) n =
    max (weight one fs + frame_height one bodies (called_height one bodies n) x) (waiting_height one bodies fs (level_below x n))

-- above the frames that wait, at a point
abbrev pub point_height : ℕ → UnitBodies → ℕ → Control → ℕ
point_height one bodies call (f.evaluates x a) = expression_height one call x
point_height one bodies call (f.links ls v a) = links_height one call ls
point_height one bodies call (f.argues es values a) = expressions_height one call es
point_height one bodies call (f.calls callee values a) = 1 + one + call
point_height one bodies call (f.runs x a) = statement_height one call x
point_height one bodies call (f.runs_all ss a) = statements_height one call ss
point_height one bodies call (f.tries bs otherwise a) = max (branches_height one call bs) (statements_height one call otherwise)
point_height one bodies call (f.selects_of more v a) = alternatives_height one call more
point_height one bodies call (f.turns_of n x ss a) = one + max (expression_height one call x) (statements_height one call ss)
point_height one bodies call (f.counts n is_reverse low high slot ss a) = one + statements_height one call ss
point_height one bodies call (f.declares ds a) = declarations_height one call ds
point_height one bodies call (f.enters operation values components steps) = call
point_height one bodies call (f.asks_of callee values) = 0
point_height one bodies call (f.waits callee) = 0
point_height one bodies call (f.ends_of request outcome) = 0
point_height one bodies call (f.quits_of outcome) = 0
point_height one bodies call (f.fires object operation) = one + called_height one bodies 1056
point_height one bodies call (f.comes now) = 0

-- the highest that the stack grows from a point on, with these frames and in this setting
abbrev pub highest : ℕ → UnitBodies → Control → List Frame → Setting → ℕ
highest one bodies at fs s = max (weight one fs + point_height one bodies (called_height one bodies (level s)) at) (waiting_height one bodies fs (level s))

-- the highest that the stack of any run of these bodies grows: of a task, of an operation that has started, or of a line; 1122 is
-- the level of a task
abbrev pub any_height : ℕ → UnitBodies → ℕ
any_height one bodies = max (tasks_height one (called_height one bodies 1122) bodies.tasks) (one + called_height one bodies 1122)
