-- How high the stack grows.
use Rattle.std.proofs.Common.{◌≡◌, ◌≤◌, ◌+◌, ◌-◌, refl, ap, arith, ℕ, zero, suc, List, [], ◌∷◌, Bool, true, false, cond, Option, Some, None, slice_get, nat_lt, max}
use Rattle.rv_event.specs.declared.entry.Exception.{Exception}
use Rattle.rv_code.specs.Statements.{Statements}
use Rattle.rv_code.specs.Bodies.{Body, Handler, UnitBodies}
use Rattle.rv_exec.specs.Bodies.{flat, numbered, among, operation_of, task_of}
use Rattle.rv_exec.specs.Choices.{named, handler_of}
use Rattle.rv_machine.proofs.MovesLeft.{numbered_some}
use Rattle.rv_machine.specs.Heights.{statements_height, handlers_height, operations_height, objects_height, tasks_height, body_height, called_height}

height_or : ℕ → ℕ → Option Statements → ℕ
height_or one call None = 0
height_or one call (Some ss) = statements_height one call ss

some_height : (one call : ℕ) (b : Bool) (first ss : Statements) (o : Option Statements) (m : ℕ)
    → (o ≡ Some ss → statements_height one call ss ≤ m) → cond b (Some first) o ≡ Some ss → statements_height one call ss ≤ max (statements_height one call first) m
unfolding height_or
some_height one call true first ss o m h is = let e : statements_height one call first ≡ statements_height one call ss = ap (λ x. height_or one call x) is in omega (arith, e)
some_height one call false first ss o m h is = let l = h is in omega (arith, l)

pub handler_height : (one call : ℕ) (hs : List Handler) (k : Exception) (ss : Statements) → handler_of hs k ≡ Some ss → statements_height one call ss ≤ handlers_height one call hs
unfolding handlers_height
handler_height one call [] k ss is = cc
handler_height one call (h ∷ hs) k ss is = some_height one call (named h.choices k) h.statements ss (handler_of hs k) (handlers_height one call hs) (handler_height one call hs k ss) is

-- the bodies of all operations are as high as each
body_height_or : ℕ → ℕ → Option Body → ℕ
body_height_or one call None = 0
body_height_or one call (Some b) = body_height one call b

got_height : (one call : ℕ) (bs : List Body) (i : ℕ) (b : Body) → slice_get bs i ≡ Some b → body_height one call b ≤ operations_height one call bs
unfolding operations_height body_height_or
got_height one call [] i b is = cc
got_height one call (y ∷ bs) zero b is = let e : body_height one call y ≡ body_height one call b = ap (λ x. body_height_or one call x) is in omega (arith, e)
got_height one call (y ∷ bs) (suc i) b is = let h = got_height one call bs i b is in omega (arith, h)

object_height : (one call : ℕ) (os : List (List Body)) (i : ℕ) (o : List Body) → slice_get os i ≡ Some o → operations_height one call o ≤ objects_height one call os
unfolding objects_height
object_height one call [] i o is = cc
object_height one call (y ∷ os) zero o is = let e : y ≡ o = cc in let g : operations_height one call y ≡ operations_height one call o = ap (λ (x : List Body). operations_height one call x) e in omega (arith, g)
object_height one call (y ∷ os) (suc i) o is = let h = object_height one call os i o is in omega (arith, h)

found_height : (one call : ℕ) (o : Option (List Body)) (operation : ℕ) (b : Body) (m : ℕ)
    → ((os : List Body) → o ≡ Some os → operations_height one call os ≤ m) → among o operation ≡ Some b → body_height one call b ≤ m
found_height one call None operation b m h is = cc
found_height one call (Some os) operation b m h is =
    let l : operations_height one call os ≤ m = h os refl in let g = got_height one call os (operation - 1) b (numbered_some os operation b is) in omega (arith, l, g)

pub operation_height : (one call : ℕ) (bodies : UnitBodies) (object operation : ℕ) (b : Body) → operation_of bodies object operation ≡ Some b → body_height one call b ≤ objects_height one call bodies.objects
operation_height one call bodies object operation b is =
    found_height one call (numbered bodies.objects object) operation b (objects_height one call bodies.objects) (λ os e. object_height one call bodies.objects (object - 1) os (numbered_some bodies.objects object os e)) is

-- a body that is called is as high as each
pub called_high : (one : ℕ) (bodies : UnitBodies) (n : ℕ) → called_height one bodies (suc n) ≡ max (called_height one bodies n) (objects_height one (called_height one bodies n) bodies.objects)
unfolding called_height
called_high one bodies n = refl

pub called_rise : (one : ℕ) (bodies : UnitBodies) (n m : ℕ) → called_height one bodies n ≤ called_height one bodies (n + m)
called_rise one bodies n zero = let e : n + 0 ≡ n = omega arith in let h : called_height one bodies (n + 0) ≡ called_height one bodies n = ap (λ (k : ℕ). called_height one bodies k) e in omega (arith, h)
called_rise one bodies n (suc m) =
    let e : n + suc m ≡ suc (n + m) = omega arith in
    let h : called_height one bodies (n + suc m) ≡ called_height one bodies (suc (n + m)) = ap (λ (k : ℕ). called_height one bodies k) e in
    let g = called_high one bodies (n + m) in
    let l = called_rise one bodies n m in
    omega (arith, h, g, l)

-- a task's body is among those of all tasks
task_height_or : ℕ → ℕ → Option (Option Body) → ℕ
task_height_or one call (Some (Some b)) = body_height one call b
task_height_or one call other = 0

got_task : (one call : ℕ) (ts : List (Option Body)) (i : ℕ) (b : Body) → slice_get ts i ≡ Some (Some b) → body_height one call b ≤ tasks_height one call ts
unfolding tasks_height task_height_or
got_task one call [] i b is = cc
got_task one call (None ∷ ts) zero b is = cc
got_task one call (Some y ∷ ts) zero b is = let e : body_height one call y ≡ body_height one call b = ap (λ x. task_height_or one call x) is in omega (arith, e)
got_task one call (None ∷ ts) (suc i) b is = got_task one call ts i b is
got_task one call (Some y ∷ ts) (suc i) b is = let h = got_task one call ts i b is in omega (arith, h)

is_flat : (o : Option (Option Body)) (b : Body) → flat o ≡ Some b → o ≡ Some (Some b)
is_flat None b is = cc
is_flat (Some None) b is = cc
is_flat (Some (Some y)) b is = ap (λ (x : Option Body). Some x) is

past_actor : (before : Bool) (o : Option Body) (b : Body) → cond before None o ≡ Some b → o ≡ Some b
past_actor true o b is = cc
past_actor false o b is = is

pub task_height : (one call : ℕ) (bodies : UnitBodies) (actor : ℕ) (b : Body) → task_of bodies actor ≡ Some b → body_height one call b ≤ tasks_height one call bodies.tasks
task_height one call bodies actor b is =
    got_task one call bodies.tasks (actor - 11) b (is_flat (slice_get bodies.tasks (actor - 11)) b (past_actor (nat_lt actor 11) (flat (slice_get bodies.tasks (actor - 11))) b is))

-- what stands on a stack is no higher than it grows
pub called_within : (one : ℕ) (bodies : UnitBodies) (n m : ℕ) → n ≤ m → called_height one bodies n ≤ called_height one bodies m
called_within one bodies n m le =
    let e : n + (m - n) ≡ m = omega (arith, le) in
    let h : called_height one bodies (n + (m - n)) ≡ called_height one bodies m = ap (λ (k : ℕ). called_height one bodies k) e in
    let rise = called_rise one bodies n (m - n) in
    omega (arith, h, rise)
