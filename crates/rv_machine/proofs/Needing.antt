-- The heights of a table's trees.
use Rattle.std.proofs.Common.{◌≡◌, ◌≤◌, ◌<◌, ◌+◌, ◌-◌, sym, ap, ◌∙◌, arith, ℕ, zero, suc, List, [], ◌∷◌, ◌++◌, Option, Some, None, get_or, take, map, length, max, ◌⊎◌, inl, inr, Result, Ok, Err}
use Rattle.std.specs.Prelude.{slice_index, IfOk}
use Rattle.std.proofs.Math.Seq.{take-suc, get_or-append_seam}
use Rattle.std.proofs.lemmas.List.{map-append, length-append, get_or_append_left, take_all}
use Rattle.std.proofs.lemmas.Option.{slice_get_cases, slice_get_past, slice_get_within}
use Rattle.rv_code.specs.Bodies.{Body}
use Rattle.rv_flat.specs.declared.body.FlatBody.{FlatBody}
use Rattle.rv_flat.specs.declared.code.Kind.{Kind}
use Rattle.rv_flat.specs.declared.code.Kind.TheVariants as kind
use Rattle.rv_flat.specs.declared.code.Node.{Node}
use Rattle.rv_flat.specs.FlatUnits.{task_in}
use Rattle.rv_flat.specs.FlatView.{body_in}
use Rattle.rv_flat.specs.Trees.{Tree, tree_at, tree_by, tree_of, IsBackward, as_expression, as_expressions, as_links, as_statement, as_statements, as_branches, as_alternatives, as_declarations, as_handlers, expression, expressions, links, statement, statements, branches, alternatives, declarations, handlers}
use Rattle.rv_machine.specs.Heights.{expression_height, expressions_height, links_height, statement_height, statements_height, branches_height, alternatives_height, declarations_height, handlers_height, body_height, operations_height, objects_height, tasks_height}
use Rattle.rv_machine.specs.Needs.{height_of, height_by, shape_of, AreHeights, AreHeightsTo}

-- a tree as one of a kind is no higher than the tree
expression_in : (one call : ℕ) (o : Option Tree) → expression_height one call (as_expression o) ≤ height_of one call o
unfolding as_expression expression_height
expression_in one call (Some (expression x)) = omega arith
expression_in one call other = omega arith

expressions_in : (one call : ℕ) (o : Option Tree) → expressions_height one call (as_expressions o) ≤ height_of one call o
unfolding as_expressions expression_height
expressions_in one call (Some (expressions x)) = omega arith
expressions_in one call other = omega arith

links_in : (one call : ℕ) (o : Option Tree) → links_height one call (as_links o) ≤ height_of one call o
unfolding as_links expression_height
links_in one call (Some (links x)) = omega arith
links_in one call other = omega arith

statement_in : (one call : ℕ) (o : Option Tree) → statement_height one call (as_statement o) ≤ height_of one call o
unfolding as_statement statement_height
statement_in one call (Some (statement x)) = omega arith
statement_in one call other = omega arith

statements_in : (one call : ℕ) (o : Option Tree) → statements_height one call (as_statements o) ≤ height_of one call o
unfolding as_statements statement_height
statements_in one call (Some (statements x)) = omega arith
statements_in one call other = omega arith

branches_in : (one call : ℕ) (o : Option Tree) → branches_height one call (as_branches o) ≤ height_of one call o
unfolding as_branches statement_height
branches_in one call (Some (branches x)) = omega arith
branches_in one call other = omega arith

alternatives_in : (one call : ℕ) (o : Option Tree) → alternatives_height one call (as_alternatives o) ≤ height_of one call o
unfolding as_alternatives statement_height
alternatives_in one call (Some (alternatives x)) = omega arith
alternatives_in one call other = omega arith

declarations_in : (one call : ℕ) (o : Option Tree) → declarations_height one call (as_declarations o) ≤ height_of one call o
unfolding as_declarations declarations_height
declarations_in one call (Some (declarations x)) = omega arith
declarations_in one call other = omega arith

handlers_in : (one call : ℕ) (o : Option Tree) → handlers_height one call (as_handlers o) ≤ height_of one call o
unfolding as_handlers handlers_height
handlers_in one call (Some (handlers x)) = omega arith
handlers_in one call other = omega arith

-- a node of a kind is no higher than its children say
kind_low : (one call : ℕ) (k : Kind) (x y z : Option Tree) (a b c : ℕ)
    → height_of one call x ≤ a → height_of one call y ≤ b → height_of one call z ≤ c
    → height_of one call (Some (tree_by k x y z)) ≤ height_by (shape_of k) one call a b c
unfolding expression_height statement_height declarations_height handlers_height
kind_low one call (kind.Value n) x y z a b c p q r = omega arith
kind_low one call (kind.Variable slot) x y z a b c p q r = omega arith
kind_low one call (kind.Component index) x y z a b c p q r = omega arith
kind_low one call (kind.Prefixed op) x y z a b c p q r = let h = expression_in one call x in omega (arith, h, p)
kind_low one call kind.Chain x y z a b c p q r = let h = expression_in one call x in let g = links_in one call y in omega (arith, h, g, p, q)
kind_low one call (kind.Within range) x y z a b c p q r = let h = expression_in one call x in omega (arith, h, p)
kind_low one call (kind.Call callee) x y z a b c p q r = let h = expressions_in one call x in omega (arith, h, p)
kind_low one call kind.Expressions x y z a b c p q r = let h = expression_in one call x in let g = expressions_in one call y in omega (arith, h, g, p, q)
kind_low one call (kind.Links op) x y z a b c p q r = let h = expression_in one call x in let g = links_in one call y in omega (arith, h, g, p, q)
kind_low one call kind.Null x y z a b c p q r = omega arith
kind_low one call (kind.Assign target) x y z a b c p q r = let h = expression_in one call x in omega (arith, h, p)
kind_low one call kind.If x y z a b c p q r = let h = branches_in one call x in let g = statements_in one call y in omega (arith, h, g, p, q)
kind_low one call kind.Case x y z a b c p q r = let h = expression_in one call x in let g = alternatives_in one call y in omega (arith, h, g, p, q)
kind_low one call kind.While x y z a b c p q r = let h = expression_in one call x in let g = statements_in one call y in omega (arith, h, g, p, q)
kind_low one call (kind.For slot is_reverse range) x y z a b c p q r =
    let h = expression_in one call x in let g = expression_in one call y in let k = statements_in one call z in omega (arith, h, g, k, p, q, r)
kind_low one call (kind.ExitWhen) x y z a b c p q r = let h = expression_in one call x in omega (arith, h, p)
kind_low one call kind.Return x y z a b c p q r = omega arith
kind_low one call kind.ReturnValue x y z a b c p q r = let h = expression_in one call x in omega (arith, h, p)
kind_low one call (kind.Raise exception) x y z a b c p q r = omega arith
kind_low one call kind.Reraise x y z a b c p q r = omega arith
kind_low one call (kind.CallStatement callee) x y z a b c p q r = let h = expressions_in one call x in omega (arith, h, p)
kind_low one call kind.Statements x y z a b c p q r = let h = statement_in one call x in let g = statements_in one call y in omega (arith, h, g, p, q)
kind_low one call kind.Branches x y z a b c p q r =
    let h = expression_in one call x in let g = statements_in one call y in let k = branches_in one call z in omega (arith, h, g, k, p, q, r)
kind_low one call kind.Alternatives x y z a b c p q r = let g = statements_in one call y in let k = alternatives_in one call z in omega (arith, g, k, q, r)
kind_low one call (kind.Choices choice) x y z a b c p q r = omega arith
kind_low one call (kind.Targets target) x y z a b c p q r = omega arith
kind_low one call (kind.Declarations target) x y z a b c p q r = let h = expression_in one call x in let g = declarations_in one call y in omega (arith, h, g, p, q)
kind_low one call kind.Handlers x y z a b c p q r = let g = statements_in one call y in let k = handlers_in one call z in omega (arith, g, k, q, r)
kind_low one call (kind.Exceptions choice) x y z a b c p q r = omega arith

pub node_low : (one call a b c high : ℕ) (heights : List ℕ) (ts : List Tree) (n : Node)
    → IsBackward (length heights - 1) n → 0 < length heights
    → a ≡ slice_index heights n.first → b ≡ slice_index heights n.second → c ≡ slice_index heights n.third
    → high ≡ height_by (shape_of n.kind) one call a b c
    → AreHeightsTo (length heights) one call ts heights → height_of one call (Some (tree_of ts n)) ≤ high
node_low one call a b c high heights ts n backward some first second third is are =
    let l = backward.0 in let m = backward.1 in let k = backward.2 in
    let p = are n.first (omega (arith, l, some)) in
    let q = are n.second (omega (arith, m, some)) in
    let r = are n.third (omega (arith, k, some)) in
    let low = kind_low one call n.kind (tree_at ts n.first) (tree_at ts n.second) (tree_at ts n.third) a b c (omega (arith, p, first)) (omega (arith, q, second)) (omega (arith, r, third)) in
    omega (arith, low, is)

-- the first number stands for none
first_high : (one call : ℕ) (ts : List Tree) (firsts : List ℕ) → AreHeightsTo 1 one call ts firsts
first_high one call ts firsts zero lt = omega arith
first_high one call ts firsts (suc n) lt = absurd (omega (arith, lt))

pub none_high : (one call : ℕ) (ts : List Tree) (heights : List ℕ) → heights ≡ 0 ∷ [] → AreHeightsTo (length heights) one call ts heights
none_high one call ts heights is n lt = first_high one call ts heights n (let e : length heights ≡ 1 = ap length is in omega (arith, lt, e))

-- one more
below_or : (n k : ℕ) → n < suc k → (n < k) ⊎ (n ≡ k)
below_or n k lt = Prim.grind (arith, lt)

pub one_more : (one call high : ℕ) (ts : List Tree) (heights more : List ℕ)
    → more ≡ heights ++ high ∷ [] → AreHeightsTo (length heights) one call ts heights → height_of one call (tree_at ts (length heights)) ≤ high
    → AreHeightsTo (length more) one call ts more
one_more one call high ts heights more is are low n lt =
    let e : length more ≡ suc (length heights) = ap length is ∙ (length-append heights (high ∷ []) ∙ omega arith) in
    elim (below_or n (length heights) (omega (arith, lt, e))) [
      | inl less ↦
          let g : slice_index more n ≡ slice_index heights n = ap (λ (hs : List ℕ). slice_index hs n) is ∙ get_or_append_left heights (high ∷ []) 0 n less in
          let h = are n less in
          omega (arith, g, h)
      | inr same ↦
          let g : slice_index more n ≡ high = ap (λ (hs : List ℕ). slice_index hs n) is ∙ (ap (λ (k : ℕ). slice_index (heights ++ high ∷ []) k) same ∙ get_or-append_seam heights high [] 0) in
          let h : height_of one call (tree_at ts n) ≡ height_of one call (tree_at ts (length heights)) = ap (λ (k : ℕ). height_of one call (tree_at ts k)) same in
          omega (arith, g, h, low)
    ]

-- a number that stands for a tree is among the table's
pub among_trees : (ts : List Tree) (n : ℕ) (x : Tree) → tree_at ts n ≡ Some x → n ≤ length ts
among_trees ts zero x is = omega arith
among_trees ts (suc n) x is = let l = slice_get_within ts n x is in omega (arith, l)

-- all trees
past_all : (ts : List Tree) (k n : ℕ) → 0 < k → tree_at ts k ≡ None → k ≤ n → tree_at ts n ≡ None
past_all ts zero n lt is le = absurd (omega (arith, lt))
past_all ts (suc k) zero lt is le = absurd (omega (arith, le))
past_all ts (suc k) (suc n) lt is le =
    elim (slice_get_cases ts k).1 [
      | inl w ↦ absurd (cc (sym is ∙ w.2))
      | inr w ↦ let l = w.0 in slice_get_past ts n (omega (arith, l, le))
    ]

within_or : (n k : ℕ) → (n < k) ⊎ (k ≤ n)
within_or n k = Prim.grind arith

pub all_high : (one call : ℕ) (ts : List Tree) (heights : List ℕ)
    → 0 < length heights → tree_at ts (length heights) ≡ None → AreHeightsTo (length heights) one call ts heights → AreHeights one call ts heights
all_high one call ts heights some none are n = elim (within_or n (length heights)) [
  | inl lt ↦ are n lt
  | inr le ↦ let e : height_of one call (tree_at ts n) ≡ 0 = ap (λ (o : Option Tree). height_of one call o) (past_all ts (length heights) n some none le) in omega (arith, e)
]

-- a body
pub body_low : (one call d s h high : ℕ) (ts : List Tree) (heights : List ℕ) (b : FlatBody)
    → d ≡ slice_index heights b.declarations → s ≡ slice_index heights b.statements → h ≡ slice_index heights b.handlers
    → high ≡ one + one + max d (max s h) → AreHeights one call ts heights → body_height one call (body_in ts b) ≤ high
body_low one call d s h high ts heights b first second third is are =
    let p = are b.declarations in
    let q = are b.statements in
    let r = are b.handlers in
    let i = declarations_in one call (tree_at ts b.declarations) in
    let j = statements_in one call (tree_at ts b.statements) in
    let k = handlers_in one call (tree_at ts b.handlers) in
    omega (arith, p, q, r, i, j, k, first, second, third, is)

-- bodies, objects and tasks, one more
operations_behind : (one call : ℕ) (bs : List Body) (b : Body) → operations_height one call (bs ++ b ∷ []) ≤ max (operations_height one call bs) (body_height one call b)
unfolding operations_height
operations_behind one call [] b = omega arith
operations_behind one call (x ∷ bs) b = let h = operations_behind one call bs b in omega (arith, h)

objects_behind : (one call : ℕ) (os : List (List Body)) (o : List Body) → objects_height one call (os ++ o ∷ []) ≤ max (objects_height one call os) (operations_height one call o)
unfolding objects_height
objects_behind one call [] o = omega arith
objects_behind one call (x ∷ os) o = let h = objects_behind one call os o in omega (arith, h)

tasks_behind : (one call : ℕ) (ts : List (Option Body)) (t : Option Body) → tasks_height one call (ts ++ t ∷ []) ≤ max (tasks_height one call ts) (tasks_height one call (t ∷ []))
unfolding tasks_height
tasks_behind one call [] t = omega arith
tasks_behind one call (None ∷ ts) t = tasks_behind one call ts t
tasks_behind one call (Some x ∷ ts) t = let h = tasks_behind one call ts t in omega (arith, h)

map_more : {A B : Type 0} (view : A → B) (xs : List A) (i : ℕ) (x : A) → i < length xs → x ≡ get_or xs i x → map view (take (i + 1) xs) ≡ map view (take i xs) ++ view x ∷ []
map_more view xs i x lt at =
    let e : i + 1 ≡ suc i = omega arith in
    ap (λ n. map view (take n xs)) e
    ∙ (ap (map view) (take-suc xs i x lt) ∙ (map-append view (take i xs) (get_or xs i x ∷ []) ∙ ap (λ z. map view (take i xs) ++ view z ∷ []) (sym at)))

pub operations_more : {A : Type 0} (view : A → Body) (one call high more : ℕ) (xs : List A) (i : ℕ) (x : A)
    → i < length xs → x ≡ get_or xs i x → operations_height one call (map view (take i xs)) ≤ high → body_height one call (view x) ≤ more
    → operations_height one call (map view (take (i + 1) xs)) ≤ max high more
operations_more view one call high more xs i x lt at low last =
    let e = ap (λ (bs : List Body). operations_height one call bs) (map_more view xs i x lt at) in
    let h = operations_behind one call (map view (take i xs)) (view x) in
    omega (arith, e, h, low, last)

pub objects_more : {A : Type 0} (view : A → List Body) (one call high more : ℕ) (xs : List A) (i : ℕ) (x : A)
    → i < length xs → x ≡ get_or xs i x → objects_height one call (map view (take i xs)) ≤ high → operations_height one call (view x) ≤ more
    → objects_height one call (map view (take (i + 1) xs)) ≤ max high more
objects_more view one call high more xs i x lt at low last =
    let e = ap (λ (os : List (List Body)). objects_height one call os) (map_more view xs i x lt at) in
    let h = objects_behind one call (map view (take i xs)) (view x) in
    omega (arith, e, h, low, last)

pub tasks_more : {A : Type 0} (view : A → Option Body) (one call high more : ℕ) (xs : List A) (i : ℕ) (x : A)
    → i < length xs → x ≡ get_or xs i x → tasks_height one call (map view (take i xs)) ≤ high → tasks_height one call (view x ∷ []) ≤ more
    → tasks_height one call (map view (take (i + 1) xs)) ≤ max high more
tasks_more view one call high more xs i x lt at low last =
    let e = ap (λ (ts : List (Option Body)). tasks_height one call ts) (map_more view xs i x lt at) in
    let h = tasks_behind one call (map view (take i xs)) (view x) in
    omega (arith, e, h, low, last)

-- before the first
pub no_operations : (one call : ℕ) → operations_height one call [] ≤ 0
unfolding operations_height
no_operations one call = omega arith

pub no_objects : (one call : ℕ) → objects_height one call [] ≤ 0
unfolding objects_height
no_objects one call = omega arith

pub no_tasks : (one call : ℕ) → tasks_height one call [] ≤ 0
unfolding tasks_height
no_tasks one call = omega arith

-- all of them
pub operations_all : {A : Type 0} (view : A → Body) (one call high : ℕ) (xs : List A) (i : ℕ)
    → length xs ≤ i → operations_height one call (map view (take i xs)) ≤ high → operations_height one call (map view xs) ≤ high
operations_all view one call high xs i le low =
    let e = ap (λ ys. operations_height one call (map view ys)) (take_all i xs le) in omega (arith, e, low)

pub objects_all : {A : Type 0} (view : A → List Body) (one call high : ℕ) (xs : List A) (i : ℕ)
    → length xs ≤ i → objects_height one call (map view (take i xs)) ≤ high → objects_height one call (map view xs) ≤ high
objects_all view one call high xs i le low =
    let e = ap (λ ys. objects_height one call (map view ys)) (take_all i xs le) in omega (arith, e, low)

pub tasks_all : {A : Type 0} (view : A → Option Body) (one call high : ℕ) (xs : List A) (i : ℕ)
    → length xs ≤ i → tasks_height one call (map view (take i xs)) ≤ high → tasks_height one call (map view xs) ≤ high
tasks_all view one call high xs i le low =
    let e = ap (λ ys. tasks_height one call (map view ys)) (take_all i xs le) in omega (arith, e, low)

-- a task
pub task_low : (one call high : ℕ) (ts : List Tree) (t : Option FlatBody) (b : FlatBody) → t ≡ Some b → body_height one call (body_in ts b) ≤ high → tasks_height one call (task_in ts t ∷ []) ≤ high
unfolding tasks_height
task_low one call high ts t b is low =
    let e : tasks_height one call (task_in ts t ∷ []) ≡ tasks_height one call (task_in ts (Some b) ∷ []) = ap (λ (o : Option FlatBody). tasks_height one call (task_in ts o ∷ [])) is in
    omega (arith, e, low)

pub no_task : (one call : ℕ) (ts : List Tree) (t : Option FlatBody) → t ≡ None → tasks_height one call (task_in ts t ∷ []) ≤ 0
unfolding tasks_height
no_task one call ts t is =
    let e : tasks_height one call (task_in ts t ∷ []) ≡ tasks_height one call (task_in ts None ∷ []) = ap (λ (o : Option FlatBody). tasks_height one call (task_in ts o ∷ [])) is in
    omega (arith, e)

-- a number that is as great as another is no less
pub small_over : {E : Type 0} (r : Result ℕ E) (n m : ℕ) → IfOk r (λ k. k ≡ n) → m ≤ n → IfOk r (λ k. m ≤ k)
small_over (Ok k) n m is le = omega (arith, is, le)
small_over (Err e) n m is le = tt
