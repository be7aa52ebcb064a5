-- What is called higher grows higher.
use Rattle.std.proofs.Common.{◌≡◌, ◌≤◌, ◌<◌, ◌+◌, ◌-◌, ◌*◌, max, ap, arith, ℕ, zero, suc, List, [], ◌∷◌, Option, Some, None}
use Rattle.rv_code.specs.Expressions as e
use Rattle.rv_code.specs.Expressions.{Expression, Expressions, Links}
use Rattle.rv_code.specs.Statements as s
use Rattle.rv_code.specs.Statements.{Statement, Statements, Branches, Alternatives}
use Rattle.rv_code.specs.Bodies.{Declaration, Handler, Body, UnitBodies}
use Rattle.rv_machine.proofs.HeightsLeft.{called_high}
use Rattle.rv_machine.specs.Heights.{expression_height, links_height, expressions_height, statement_height, statements_height, branches_height, alternatives_height, declarations_height, handlers_height, body_height, operations_height, objects_height, tasks_height, called_height, any_height}

mutual
  unfolding expression_height

  expression_rises : (one c d : ℕ) → c ≤ d → (x : Expression) → expression_height one c x ≤ expression_height one d x
  expression_rises one c d le (e.literal n) = omega arith
  expression_rises one c d le (e.variable slot) = omega arith
  expression_rises one c d le (e.component index) = omega arith
  expression_rises one c d le (e.prefixed op x) = let h = expression_rises one c d le x in omega (arith, h)
  expression_rises one c d le (e.chain x ls) = let h = expression_rises one c d le x in let g = links_rise one c d le ls in omega (arith, h, g)
  expression_rises one c d le (e.within range x) = let h = expression_rises one c d le x in omega (arith, h)
  expression_rises one c d le (e.call callee es) = let h = expressions_rise one c d le es in omega (arith, h, le)

  links_rise : (one c d : ℕ) → c ≤ d → (ls : Links) → links_height one c ls ≤ links_height one d ls
  links_rise one c d le e.no_links = omega arith
  links_rise one c d le (e.and_link op x ls) = let h = expression_rises one c d le x in let g = links_rise one c d le ls in omega (arith, h, g)

  expressions_rise : (one c d : ℕ) → c ≤ d → (es : Expressions) → expressions_height one c es ≤ expressions_height one d es
  expressions_rise one c d le e.no_expressions = omega arith
  expressions_rise one c d le (e.and_expression x es) = let h = expression_rises one c d le x in let g = expressions_rise one c d le es in omega (arith, h, g)

mutual
  unfolding statement_height

  statement_rises : (one c d : ℕ) → c ≤ d → (x : Statement) → statement_height one c x ≤ statement_height one d x
  statement_rises one c d le s.null_statement = omega arith
  statement_rises one c d le (s.assign target x) = let h = expression_rises one c d le x in omega (arith, h)
  statement_rises one c d le (s.choice bs otherwise) = let h = branches_rise one c d le bs in let g = statements_rise one c d le otherwise in omega (arith, h, g)
  statement_rises one c d le (s.selection x more) = let h = expression_rises one c d le x in let g = alternatives_rise one c d le more in omega (arith, h, g)
  statement_rises one c d le (s.while_loop x ss) = let h = expression_rises one c d le x in let g = statements_rise one c d le ss in omega (arith, h, g)
  statement_rises one c d le (s.for_loop slot is_reverse range low high ss) =
      let h = expression_rises one c d le low in let k = expression_rises one c d le high in let g = statements_rise one c d le ss in omega (arith, h, k, g)
  statement_rises one c d le (s.exit_when x) = let h = expression_rises one c d le x in omega (arith, h)
  statement_rises one c d le s.returns = omega arith
  statement_rises one c d le (s.returns_value x) = let h = expression_rises one c d le x in omega (arith, h)
  statement_rises one c d le (s.raises exception) = omega arith
  statement_rises one c d le s.reraises = omega arith
  statement_rises one c d le (s.calls callee es targets) = let h = expressions_rise one c d le es in omega (arith, h, le)

  statements_rise : (one c d : ℕ) → c ≤ d → (ss : Statements) → statements_height one c ss ≤ statements_height one d ss
  statements_rise one c d le s.no_statements = omega arith
  statements_rise one c d le (s.and_statement x ss) = let h = statement_rises one c d le x in let g = statements_rise one c d le ss in omega (arith, h, g)

  branches_rise : (one c d : ℕ) → c ≤ d → (bs : Branches) → branches_height one c bs ≤ branches_height one d bs
  branches_rise one c d le s.no_branches = omega arith
  branches_rise one c d le (s.and_branch x ss bs) =
      let h = expression_rises one c d le x in let k = statements_rise one c d le ss in let g = branches_rise one c d le bs in omega (arith, h, k, g)

  alternatives_rise : (one c d : ℕ) → c ≤ d → (more : Alternatives) → alternatives_height one c more ≤ alternatives_height one d more
  alternatives_rise one c d le s.no_alternatives = omega arith
  alternatives_rise one c d le (s.and_alternative choices ss more) = let h = statements_rise one c d le ss in let g = alternatives_rise one c d le more in omega (arith, h, g)

declarations_rise : (one c d : ℕ) → c ≤ d → (ds : List Declaration) → declarations_height one c ds ≤ declarations_height one d ds
unfolding declarations_height
declarations_rise one c d le [] = omega arith
declarations_rise one c d le (x ∷ ds) = let h = expression_rises one c d le x.initial in let g = declarations_rise one c d le ds in omega (arith, h, g)

handlers_rise : (one c d : ℕ) → c ≤ d → (hs : List Handler) → handlers_height one c hs ≤ handlers_height one d hs
unfolding handlers_height
handlers_rise one c d le [] = omega arith
handlers_rise one c d le (x ∷ hs) = let h = statements_rise one c d le x.statements in let g = handlers_rise one c d le hs in omega (arith, h, g)

body_rises : (one c d : ℕ) → c ≤ d → (b : Body) → body_height one c b ≤ body_height one d b
body_rises one c d le b =
    let h = declarations_rise one c d le b.declarations in let k = statements_rise one c d le b.statements in let g = handlers_rise one c d le b.handlers in omega (arith, h, k, g)

operations_rise : (one c d : ℕ) → c ≤ d → (bs : List Body) → operations_height one c bs ≤ operations_height one d bs
unfolding operations_height
operations_rise one c d le [] = omega arith
operations_rise one c d le (b ∷ bs) = let h = body_rises one c d le b in let g = operations_rise one c d le bs in omega (arith, h, g)

pub objects_rise : (one c d : ℕ) → c ≤ d → (os : List (List Body)) → objects_height one c os ≤ objects_height one d os
unfolding objects_height
objects_rise one c d le [] = omega arith
objects_rise one c d le (o ∷ os) = let h = operations_rise one c d le o in let g = objects_rise one c d le os in omega (arith, h, g)

pub tasks_rise : (one c d : ℕ) → c ≤ d → (ts : List (Option Body)) → tasks_height one c ts ≤ tasks_height one d ts
unfolding tasks_height
tasks_rise one c d le [] = omega arith
tasks_rise one c d le (None ∷ ts) = tasks_rise one c d le ts
tasks_rise one c d le (Some b ∷ ts) = let h = body_rises one c d le b in let g = tasks_rise one c d le ts in omega (arith, h, g)

mutual
  unfolding expression_height

  expression_slopes : (one c more : ℕ) (x : Expression) → expression_height one (c + more) x ≤ expression_height one c x + more
  expression_slopes one c more (e.literal n) = omega arith
  expression_slopes one c more (e.variable slot) = omega arith
  expression_slopes one c more (e.component index) = omega arith
  expression_slopes one c more (e.prefixed op x) = let h = expression_slopes one c more x in omega (arith, h)
  expression_slopes one c more (e.chain x ls) = let h = expression_slopes one c more x in let g = links_slopes one c more ls in omega (arith, h, g)
  expression_slopes one c more (e.within range x) = let h = expression_slopes one c more x in omega (arith, h)
  expression_slopes one c more (e.call callee es) = let h = expressions_slopes one c more es in omega (arith, h)

  links_slopes : (one c more : ℕ) (ls : Links) → links_height one (c + more) ls ≤ links_height one c ls + more
  links_slopes one c more e.no_links = omega arith
  links_slopes one c more (e.and_link op x ls) = let h = expression_slopes one c more x in let g = links_slopes one c more ls in omega (arith, h, g)

  expressions_slopes : (one c more : ℕ) (es : Expressions) → expressions_height one (c + more) es ≤ expressions_height one c es + more
  expressions_slopes one c more e.no_expressions = omega arith
  expressions_slopes one c more (e.and_expression x es) = let h = expression_slopes one c more x in let g = expressions_slopes one c more es in omega (arith, h, g)

mutual
  unfolding statement_height

  statement_slopes : (one c more : ℕ) (x : Statement) → statement_height one (c + more) x ≤ statement_height one c x + more
  statement_slopes one c more s.null_statement = omega arith
  statement_slopes one c more (s.assign target x) = let h = expression_slopes one c more x in omega (arith, h)
  statement_slopes one c more (s.choice bs otherwise) = let h = branches_slopes one c more bs in let g = statements_slopes one c more otherwise in omega (arith, h, g)
  statement_slopes one c more (s.selection x alternatives) = let h = expression_slopes one c more x in let g = alternatives_slopes one c more alternatives in omega (arith, h, g)
  statement_slopes one c more (s.while_loop x ss) = let h = expression_slopes one c more x in let g = statements_slopes one c more ss in omega (arith, h, g)
  statement_slopes one c more (s.for_loop slot is_reverse range low high ss) =
      let h = expression_slopes one c more low in let k = expression_slopes one c more high in let g = statements_slopes one c more ss in omega (arith, h, k, g)
  statement_slopes one c more (s.exit_when x) = let h = expression_slopes one c more x in omega (arith, h)
  statement_slopes one c more s.returns = omega arith
  statement_slopes one c more (s.returns_value x) = let h = expression_slopes one c more x in omega (arith, h)
  statement_slopes one c more (s.raises exception) = omega arith
  statement_slopes one c more s.reraises = omega arith
  statement_slopes one c more (s.calls callee es targets) = let h = expressions_slopes one c more es in omega (arith, h)

  statements_slopes : (one c more : ℕ) (ss : Statements) → statements_height one (c + more) ss ≤ statements_height one c ss + more
  statements_slopes one c more s.no_statements = omega arith
  statements_slopes one c more (s.and_statement x ss) = let h = statement_slopes one c more x in let g = statements_slopes one c more ss in omega (arith, h, g)

  branches_slopes : (one c more : ℕ) (bs : Branches) → branches_height one (c + more) bs ≤ branches_height one c bs + more
  branches_slopes one c more s.no_branches = omega arith
  branches_slopes one c more (s.and_branch x ss bs) =
      let h = expression_slopes one c more x in let k = statements_slopes one c more ss in let g = branches_slopes one c more bs in omega (arith, h, k, g)

  alternatives_slopes : (one c more : ℕ) (alternatives : Alternatives) → alternatives_height one (c + more) alternatives ≤ alternatives_height one c alternatives + more
  alternatives_slopes one c more s.no_alternatives = omega arith
  alternatives_slopes one c more (s.and_alternative choices ss alternatives) = let h = statements_slopes one c more ss in let g = alternatives_slopes one c more alternatives in omega (arith, h, g)

declarations_slopes : (one c more : ℕ) (ds : List Declaration) → declarations_height one (c + more) ds ≤ declarations_height one c ds + more
unfolding declarations_height
declarations_slopes one c more [] = omega arith
declarations_slopes one c more (x ∷ ds) = let h = expression_slopes one c more x.initial in let g = declarations_slopes one c more ds in omega (arith, h, g)

handlers_slopes : (one c more : ℕ) (hs : List Handler) → handlers_height one (c + more) hs ≤ handlers_height one c hs + more
unfolding handlers_height
handlers_slopes one c more [] = omega arith
handlers_slopes one c more (x ∷ hs) = let h = statements_slopes one c more x.statements in let g = handlers_slopes one c more hs in omega (arith, h, g)

body_slopes : (one c more : ℕ) (b : Body) → body_height one (c + more) b ≤ body_height one c b + more
body_slopes one c more b =
    let h = declarations_slopes one c more b.declarations in let k = statements_slopes one c more b.statements in let g = handlers_slopes one c more b.handlers in omega (arith, h, k, g)

operations_slopes : (one c more : ℕ) (bs : List Body) → operations_height one (c + more) bs ≤ operations_height one c bs + more
unfolding operations_height
operations_slopes one c more [] = omega arith
operations_slopes one c more (b ∷ bs) = let h = body_slopes one c more b in let g = operations_slopes one c more bs in omega (arith, h, g)

pub objects_slopes : (one c more : ℕ) (os : List (List Body)) → objects_height one (c + more) os ≤ objects_height one c os + more
unfolding objects_height
objects_slopes one c more [] = omega arith
objects_slopes one c more (o ∷ os) = let h = operations_slopes one c more o in let g = objects_slopes one c more os in omega (arith, h, g)

-- levels more: each makes a call higher by no more than one of them does, or by nothing
pub level_more : (one : ℕ) (bodies : UnitBodies) (n call high : ℕ)
    → called_height one bodies n ≤ call → objects_height one call bodies.objects ≤ high → call < high → called_height one bodies (suc n) ≤ high
level_more one bodies n call high le top more =
    let e = called_high one bodies n in
    let h = objects_rise one (called_height one bodies n) call le bodies.objects in
    omega (arith, e, h, le, top, more)

pub levels_more : (one : ℕ) (bodies : UnitBodies) (n m call each : ℕ)
    → called_height one bodies n ≤ call → objects_height one call bodies.objects ≤ call + each → called_height one bodies (n + m) ≤ call + m * each
levels_more one bodies n zero call each le top =
    let e : n + 0 ≡ n = omega arith in
    let h : called_height one bodies (n + 0) ≡ called_height one bodies n = ap (λ (k : ℕ). called_height one bodies k) e in
    omega (arith, h, le)
levels_more one bodies n (suc m) call each le top =
    let l = levels_more one bodies n m call each le top in
    let e : n + suc m ≡ suc (n + m) = omega arith in
    let h : called_height one bodies (n + suc m) ≡ called_height one bodies (suc (n + m)) = ap (λ (k : ℕ). called_height one bodies k) e in
    let g = called_high one bodies (n + m) in
    let r = objects_rise one (called_height one bodies (n + m)) (call + m * each) l bodies.objects in
    let s = objects_slopes one call (m * each) bodies.objects in
    omega (arith, h, g, r, s, l, top)

-- no level, the one behind, the last where one makes no call higher, and the last behind the first ones
pub no_level : (one : ℕ) (bodies : UnitBodies) → called_height one bodies 0 ≤ 0
unfolding called_height
no_level one bodies = omega arith

pub level_behind : (one : ℕ) (bodies : UnitBodies) (n call high : ℕ)
    → called_height one bodies n ≤ call → objects_height one call bodies.objects ≤ high → call < high → called_height one bodies (n + 1) ≤ high
level_behind one bodies n call high le top more =
    let l = level_more one bodies n call high le top more in
    let up : n + 1 ≡ suc n = omega arith in
    let e : called_height one bodies (n + 1) ≡ called_height one bodies (suc n) = ap (λ (k : ℕ). called_height one bodies k) up in
    omega (arith, l, e)

pub level_last : (one : ℕ) (bodies : UnitBodies) (n call high : ℕ)
    → n < 16 → called_height one bodies n ≤ call → objects_height one call bodies.objects ≤ high → high ≤ call → called_height one bodies 1122 ≤ call
level_last one bodies n call high lt le top lower =
    let l = levels_more one bodies n (1122 - n) call 0 le (omega (arith, top, lower)) in
    let all : n + (1122 - n) ≡ 1122 = omega (arith, lt) in
    let e : called_height one bodies (n + (1122 - n)) ≡ called_height one bodies 1122 = ap (λ (k : ℕ). called_height one bodies k) all in
    omega (arith, l, e)

pub levels_last : (one : ℕ) (bodies : UnitBodies) (n call high each : ℕ)
    → n ≡ 16 → called_height one bodies n ≤ call → objects_height one call bodies.objects ≤ high → each ≡ high - call → called_height one bodies 1122 ≤ call + 1106 * each
levels_last one bodies n call high each is le top more =
    let l = levels_more one bodies n 1106 call each le (omega (arith, top, more)) in
    let all : n + 1106 ≡ 1122 = omega (arith, is) in
    let e : called_height one bodies (n + 1106) ≡ called_height one bodies 1122 = ap (λ (k : ℕ). called_height one bodies k) all in
    omega (arith, l, e)

-- any run
pub any_low : (one : ℕ) (bodies : UnitBodies) (call tasks : ℕ)
    → called_height one bodies 1122 ≤ call → tasks_height one call bodies.tasks ≤ tasks → any_height one bodies ≤ max tasks (one + call)
any_low one bodies call tasks le top =
    let h = tasks_rise one (called_height one bodies 1122) call le bodies.tasks in
    omega (arith, le, top, h)
