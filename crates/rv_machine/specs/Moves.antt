-- How often a run may still move and ask (own): a bound, and each move and each answer makes it less.
use Rattle.std.specs.Prelude.{ℕ, zero, suc, ◌+◌, ◌*◌, List, [], ◌∷◌}
use Rattle.rv_code.specs.Expressions as e
use Rattle.rv_code.specs.Expressions.{Expression, Expressions, Links}
use Rattle.rv_code.specs.Statements as s
use Rattle.rv_code.specs.Statements.{Statement, Statements, Branches, Alternatives}
use Rattle.rv_code.specs.Bodies.{Declaration, Handler, Body, UnitBodies}
use Rattle.rv_exec.specs.declared.setting.Setting.{Setting}
use Rattle.rv_frames.specs.Frames as f
use Rattle.rv_frames.specs.Frames.{Frame, Control}

-- the most turns of a loop: what a number of 64 bits counts
unfoldable pub most_turns : ℕ
most_turns = 18446744073709551615

-- so many turns, each of so many moves
unfoldable pub turns_moves : ℕ → ℕ → ℕ
turns_moves zero each = 0
turns_moves (suc n) each = each + turns_moves n each

-- the moves of expressions, of links and of arguments, where a call takes so many
unfoldable mutual
  pub expression_moves : ℕ → Expression → ℕ
  expression_moves call (e.literal n) = 1
  expression_moves call (e.variable slot) = 1
  expression_moves call (e.component index) = 1
  expression_moves call (e.prefixed op x) = expression_moves call x + 2
  expression_moves call (e.chain x ls) = expression_moves call x + links_moves call ls + 2
  expression_moves call (e.within range x) = expression_moves call x + 2
  expression_moves call (e.call callee es) = expressions_moves call es + call + 5

  pub links_moves : ℕ → Links → ℕ
  links_moves call e.no_links = 1
  links_moves call (e.and_link op x ls) = expression_moves call x + links_moves call ls + 2

  pub expressions_moves : ℕ → Expressions → ℕ
  expressions_moves call e.no_expressions = 1
  expressions_moves call (e.and_expression x es) = expression_moves call x + expressions_moves call es + 2

-- the moves of statements, of branches and of alternatives
unfoldable mutual
  pub statement_moves : ℕ → Statement → ℕ
  statement_moves call s.null_statement = 1
  statement_moves call (s.assign target x) = expression_moves call x + 2
  statement_moves call (s.choice bs otherwise) = branches_moves call bs + statements_moves call otherwise + 1
  statement_moves call (s.selection x more) = expression_moves call x + alternatives_moves call more + 2
  statement_moves call (s.while_loop x ss) = turns_moves most_turns (expression_moves call x + statements_moves call ss + 3) + 2
  statement_moves call (s.for_loop slot is_reverse range low high ss) =
      expression_moves call low + expression_moves call high + turns_moves most_turns (statements_moves call ss + 3) + 4
  statement_moves call (s.exit_when x) = expression_moves call x + 2
  statement_moves call s.returns = 1
  statement_moves call (s.returns_value x) = expression_moves call x + 2
  statement_moves call (s.raises exception) = 1
  statement_moves call s.reraises = 1
  statement_moves call (s.calls callee es targets) = expressions_moves call es + call + 5

  pub statements_moves : ℕ → Statements → ℕ
  statements_moves call s.no_statements = 1
  statements_moves call (s.and_statement x ss) = statement_moves call x + statements_moves call ss + 2

  pub branches_moves : ℕ → Branches → ℕ
  branches_moves call s.no_branches = 1
  branches_moves call (s.and_branch x ss bs) = expression_moves call x + statements_moves call ss + branches_moves call bs + 2

  pub alternatives_moves : ℕ → Alternatives → ℕ
  alternatives_moves call s.no_alternatives = 1
  alternatives_moves call (s.and_alternative choices ss more) = statements_moves call ss + alternatives_moves call more + 1

unfoldable pub declarations_moves : ℕ → List Declaration → ℕ
declarations_moves call [] = 1
declarations_moves call (d ∷ ds) = expression_moves call d.initial + declarations_moves call ds + 2

unfoldable pub handlers_moves : ℕ → List Handler → ℕ
handlers_moves call [] = 1
handlers_moves call (h ∷ hs) = statements_moves call h.statements + handlers_moves call hs + 1

-- the moves of a body, and of all bodies of objects
abbrev pub body_moves : ℕ → Body → ℕ
body_moves call body = declarations_moves call body.declarations + statements_moves call body.statements + handlers_moves call body.handlers + 2

unfoldable pub operations_moves : ℕ → List Body → ℕ
operations_moves call [] = 0
operations_moves call (b ∷ bs) = body_moves call b + operations_moves call bs

unfoldable pub objects_moves : ℕ → List (List Body) → ℕ
objects_moves call [] = 0
objects_moves call (o ∷ os) = operations_moves call o + objects_moves call os

-- a call at a level: at each level there are the bodies of all operations, whose calls are at the level below
unfoldable pub called_moves : UnitBodies → ℕ → ℕ
called_moves bodies zero = 8
called_moves bodies (suc n) = called_moves bodies n + objects_moves (called_moves bodies n) bodies.objects + 8

-- the level of a setting: 66 for each object that the actor may still hold, and one for each call inside the object
abbrev pub level : Setting → ℕ
level s = s.held * 66 + s.nested + 1

-- the level of what waits below a frame
abbrev pub level_below : Frame → ℕ → ℕ
level_below (f.resuming t a) n = level t
level_below (f.completing is_function t) n = level t
level_below other n = n

-- the moves of what a frame waits for
abbrev pub frame_moves : UnitBodies → ℕ → Frame → ℕ
frame_moves bodies call (f.prefixing op) = 1
frame_moves bodies call (f.linking ls) = links_moves call ls + 1
frame_moves bodies call (f.operating op v ls) = links_moves call ls + 1
frame_moves bodies call (f.bounding range) = 1
frame_moves bodies call (f.arguing values es) = expressions_moves call es + 1
frame_moves bodies call (f.passing callee) = call + 3
frame_moves bodies call f.giving = 1
frame_moves bodies call (f.assigning target) = 1
frame_moves bodies call (f.branching ss bs otherwise) = statements_moves call ss + branches_moves call bs + statements_moves call otherwise + 1
frame_moves bodies call (f.selecting more) = alternatives_moves call more + 1
frame_moves bodies call (f.testing n x ss) = statements_moves call ss + turns_moves n (expression_moves call x + statements_moves call ss + 3) + 3
frame_moves bodies call (f.turning n x ss) = turns_moves n (expression_moves call x + statements_moves call ss + 3) + 2
frame_moves bodies call (f.lowering slot is_reverse range high ss) = expression_moves call high + turns_moves most_turns (statements_moves call ss + 3) + 3
frame_moves bodies call (f.raising slot is_reverse range low ss) = turns_moves most_turns (statements_moves call ss + 3) + 2
frame_moves bodies call (f.counting n is_reverse low high slot ss) = turns_moves n (statements_moves call ss + 3) + 2
frame_moves bodies call f.leaving = 1
frame_moves bodies call f.returning = 1
frame_moves bodies call (f.copying targets) = 1
frame_moves bodies call (f.sequencing ss) = statements_moves call ss + 1
frame_moves bodies call (f.declaring target ds) = declarations_moves call ds + 1
frame_moves bodies call (f.opening ss hs) = statements_moves call ss + handlers_moves call hs + 2
frame_moves bodies call (f.handling hs) = handlers_moves call hs + 1
frame_moves bodies call (f.restoring exception) = 1
frame_moves bodies call (f.closing body) = 1
frame_moves bodies call (f.resuming t a) = 1
frame_moves bodies call (f.answering a) = 1
frame_moves bodies call (f.performing held values) = called_moves bodies (held * 66) + 3
frame_moves bodies call (f.completing is_function t) = 2
frame_moves bodies call f.exiting = 1
frame_moves bodies call (f.quitting body) = 2

-- the moves of all frames, from the one on top on, at this level
abbrev pub waiting_moves : UnitBodies → List Frame → ℕ → ℕ
waiting_moves bodies [] n = 0
waiting_moves bodies (x ∷ fs) n = frame_moves bodies (called_moves bodies n) x + waiting_moves bodies fs (level_below x n)

-- the moves at a point, before what comes of it comes to the frame on top
abbrev pub point_moves : UnitBodies → ℕ → Control → ℕ
point_moves bodies call (f.evaluates x a) = expression_moves call x
point_moves bodies call (f.links ls v a) = links_moves call ls
point_moves bodies call (f.argues es values a) = expressions_moves call es
point_moves bodies call (f.calls callee values a) = call + 2
point_moves bodies call (f.runs x a) = statement_moves call x
point_moves bodies call (f.runs_all ss a) = statements_moves call ss
point_moves bodies call (f.tries bs otherwise a) = branches_moves call bs + statements_moves call otherwise
point_moves bodies call (f.selects_of more v a) = alternatives_moves call more
point_moves bodies call (f.turns_of n x ss a) = turns_moves n (expression_moves call x + statements_moves call ss + 3) + 1
point_moves bodies call (f.counts n is_reverse low high slot ss a) = turns_moves n (statements_moves call ss + 3) + 1
point_moves bodies call (f.declares ds a) = declarations_moves call ds
point_moves bodies call (f.enters operation values components steps) = call
point_moves bodies call (f.asks_of callee values) = 2
point_moves bodies call (f.waits callee) = 1
point_moves bodies call (f.ends_of request outcome) = 1
point_moves bodies call (f.quits_of outcome) = 1
point_moves bodies call (f.fires object operation) = called_moves bodies 1056 + 3
point_moves bodies call (f.comes now) = 0

-- what a run may still move and ask, at a point and with these frames, in this setting
abbrev pub moves_left : UnitBodies → Control → List Frame → Setting → ℕ
moves_left bodies at fs s = point_moves bodies (called_moves bodies (level s)) at + waiting_moves bodies fs (level s)
