-- How many moves are left.
use Rattle.std.proofs.Common.{◌≡◌, ◌≤◌, ◌<◌, ◌+◌, ◌-◌, refl, ap, arith, ℕ, zero, suc, List, [], ◌∷◌, Bool, true, false, cond, Option, Some, None, slice_get, nat_lt}
use Rattle.rv_event.specs.declared.entry.Exception.{Exception}
use Rattle.rv_code.specs.Statements.{Statements}
use Rattle.rv_code.specs.Bodies.{Body, Handler, UnitBodies}
use Rattle.rv_exec.specs.declared.setting.Setting.{Setting}
use Rattle.rv_exec.specs.Bodies.{numbered, among, operation_of}
use Rattle.rv_exec.specs.Choices.{named, handler_of}
use Rattle.rv_frames.specs.Frames as f
use Rattle.rv_frames.specs.Frames.{Frame}
use Rattle.rv_frames.specs.Passing.{setting_below}
use Rattle.rv_machine.specs.Moves.{most_turns, turns_moves, statements_moves, handlers_moves, operations_moves, objects_moves, body_moves, called_moves, level, level_below, frame_moves}

pub turns_grow : (n m each : ℕ) → n ≤ m → turns_moves n each ≤ turns_moves m each
unfolding turns_moves
turns_grow zero m each le = omega arith
turns_grow (suc n) zero each le = absurd (omega (arith, le))
turns_grow (suc n) (suc m) each le = let h = turns_grow n m each (omega (arith, le)) in omega (arith, h)

pub turns_fit : (n : ℕ) → n < 18446744073709551616 → n ≤ most_turns
unfolding most_turns
turns_fit n lt = omega (arith, lt)

moves_or : ℕ → Option Statements → ℕ
moves_or call None = 0
moves_or call (Some ss) = suc (statements_moves call ss)

handler_at : (call : ℕ) (b : Bool) (one ss : Statements) (o : Option Statements) (m : ℕ)
    → (o ≡ Some ss → statements_moves call ss < m) → cond b (Some one) o ≡ Some ss → statements_moves call ss < statements_moves call one + m + 1
unfolding moves_or
handler_at call true one ss o m h is = let e : suc (statements_moves call one) ≡ suc (statements_moves call ss) = ap (λ x. moves_or call x) is in omega (arith, e)
handler_at call false one ss o m h is = let l = h is in omega (arith, l)

pub handler_moves : (call : ℕ) (hs : List Handler) (k : Exception) (ss : Statements) → handler_of hs k ≡ Some ss → statements_moves call ss < handlers_moves call hs
unfolding handlers_moves moves_or
handler_moves call [] k ss is = let e : 0 ≡ suc (statements_moves call ss) = ap (λ x. moves_or call x) is in absurd (omega (arith, e))
handler_moves call (h ∷ hs) k ss is = handler_at call (named h.choices k) h.statements ss (handler_of hs k) (handlers_moves call hs) (handler_moves call hs k ss) is

-- the bodies of all operations have more than each
body_moves_or : ℕ → ℕ → Option Body → ℕ
body_moves_or call n None = n
body_moves_or call n (Some b) = body_moves call b

got_moves : (call : ℕ) (bs : List Body) (i : ℕ) (b : Body) → slice_get bs i ≡ Some b → body_moves call b ≤ operations_moves call bs
unfolding operations_moves body_moves_or
got_moves call [] i b is = let e : 0 ≡ body_moves call b = ap (λ x. body_moves_or call 0 x) is in omega (arith, e)
got_moves call (y ∷ bs) zero b is = let e : body_moves call y ≡ body_moves call b = ap (λ x. body_moves_or call 0 x) is in omega (arith, e)
got_moves call (y ∷ bs) (suc i) b is = let h = got_moves call bs i b is in omega (arith, h)

object_moves : (call : ℕ) (os : List (List Body)) (i : ℕ) (o : List Body) → slice_get os i ≡ Some o → operations_moves call o ≤ objects_moves call os
unfolding objects_moves
object_moves call [] i o is = cc
object_moves call (y ∷ os) zero o is = let e : y ≡ o = cc in let g : operations_moves call y ≡ operations_moves call o = ap (λ (x : List Body). operations_moves call x) e in omega (arith, g)
object_moves call (y ∷ os) (suc i) o is = let h = object_moves call os i o is in omega (arith, h)

past_test : {A : Type 0} (b : Bool) (o : Option A) (x : A) → cond b None o ≡ Some x → o ≡ Some x
past_test true o x is = cc
past_test false o x is = is

pub numbered_some : {A : Type 0} (items : List A) (n : ℕ) (x : A) → numbered items n ≡ Some x → slice_get items (n - 1) ≡ Some x
numbered_some items n x is = past_test (nat_lt n 1) (slice_get items (n - 1)) x is

found_moves : (call : ℕ) (o : Option (List Body)) (operation : ℕ) (b : Body) (m : ℕ)
    → ((os : List Body) → o ≡ Some os → operations_moves call os ≤ m) → among o operation ≡ Some b → body_moves call b ≤ m
found_moves call None operation b m h is = cc
found_moves call (Some os) operation b m h is =
    let l : operations_moves call os ≤ m = h os refl in let g = got_moves call os (operation - 1) b (numbered_some os operation b is) in omega (arith, l, g)

pub operation_moves : (call : ℕ) (bodies : UnitBodies) (object operation : ℕ) (b : Body) → operation_of bodies object operation ≡ Some b → body_moves call b ≤ objects_moves call bodies.objects
operation_moves call bodies object operation b is =
    found_moves call (numbered bodies.objects object) operation b (objects_moves call bodies.objects) (λ os e. object_moves call bodies.objects (object - 1) os (numbered_some bodies.objects object os e)) is

-- a call has more moves than what it calls
pub called_more : (bodies : UnitBodies) (n : ℕ) → called_moves bodies (suc n) ≡ called_moves bodies n + objects_moves (called_moves bodies n) bodies.objects + 8
unfolding called_moves
called_more bodies n = refl

pub called_least : (bodies : UnitBodies) (n : ℕ) → 8 ≤ called_moves bodies n
unfolding called_moves
called_least bodies zero = omega arith
called_least bodies (suc n) = let h = called_least bodies n in omega (arith, h)

pub called_grow : (bodies : UnitBodies) (n m : ℕ) → called_moves bodies n ≤ called_moves bodies (n + m)
called_grow bodies n zero = let e : n + 0 ≡ n = omega arith in let h : called_moves bodies (n + 0) ≡ called_moves bodies n = ap (λ (k : ℕ). called_moves bodies k) e in omega (arith, h)
called_grow bodies n (suc m) =
    let e : n + suc m ≡ suc (n + m) = omega arith in
    let h : called_moves bodies (n + suc m) ≡ called_moves bodies (suc (n + m)) = ap (λ (k : ℕ). called_moves bodies k) e in
    let g = called_more bodies (n + m) in
    let l = called_grow bodies n m in
    omega (arith, h, g, l)

pub level_under : (x : Frame) (s : Setting) → level (setting_below x s) ≡ level_below x (level s)
level_under (f.restoring exception) s = refl
level_under (f.resuming t a) s = refl
level_under (f.completing is_function t) s = refl
level_under other s = refl

pub frame_least : (bodies : UnitBodies) (call : ℕ) (x : Frame) → 1 ≤ frame_moves bodies call x
frame_least bodies call (f.prefixing op) = omega arith
frame_least bodies call other = omega arith
