-- What is kept of bodies.
use Rattle.std.proofs.Common.{◌≡◌, ℕ, zero, suc, ◌+◌, ◌≤◌, ap, ◌∙◌, arith, ℤ, pos, List, [], ◌∷◌, Bool, true, false, cond, refl, Option, Some, None, Err}
use Rattle.std.specs.List.{list_all}
use Rattle.std.proofs.lemmas.Bool.Decides.{nat_tests}
use Rattle.std.specs.Prelude.{◌&&◌, ◌-◌, nat_lt, replicate, slice_get}
use Rattle.rv_event.specs.declared.entry.Exception.{Exception}
use Rattle.rv_event.specs.declared.entry.Exception.TheVariants.{ProgramError}
use Rattle.rv_code.specs.declared.expression.Callee.{Callee}
use Rattle.rv_code.specs.Bodies.{Declaration, Handler, Body, UnitBodies}
use Rattle.rv_code.specs.Statements.{Statements}
use Rattle.rv_fits.proofs.Both.{first_of_both, second_of_both}
use Rattle.rv_fits.specs.Calls.{statements_call, declaration_calls, handler_calls, body_calls, object_calls, task_calls, such_in, objects_call, every_call}
use Rattle.rv_exec.specs.declared.activation.Activation.{Activation}
use Rattle.rv_exec.specs.declared.end.Cause.TheVariants as cause
use Rattle.rv_exec.specs.declared.end.End.{End}
use Rattle.rv_exec.specs.declared.end.End.TheVariants as end
use Rattle.rv_exec.specs.Asking.{Asking, and_then}
use Rattle.rv_exec.specs.Activations.{assigned, bound, opened, given_back}
use Rattle.rv_exec.specs.Blocks.{elaborated, in_handler, handling, handled, block, function_outcome, procedure_outcome, outcome_of, closed, body_meaning, inner_at}
use Rattle.rv_exec.specs.Bodies.{numbered, among, flat, operation_of, task_of}
use Rattle.rv_exec.specs.Calls.{Outcome, internal}
use Rattle.rv_exec.specs.Choices.{named, handler_of}
use Rattle.rv_exec.specs.Expressions.{value}
use Rattle.rv_exec.specs.Statements.{go_on, meanings}
use Rattle.rv_exec.specs.World.{World}
use Rattle.rv_exec.proofs.Keeping.{ongoing, how_by, how_result, how_got, how_end, how_run, Kept, Sound, Follows, sound_end, follows_end, sound_where, sound_then, sound_in_run, sound_run, follows_run}
use Rattle.rv_exec.proofs.KeptValues.{near, SoundWorld, value_sound}
use Rattle.rv_exec.proofs.KeptStatements.{assigned_goes, statements_sound}

-- What is found in bodies calls as they all do

abbrev found_calls : (Callee → Bool) → Option Statements → Bool
found_calls such None = true
found_calls such (Some ss) = statements_call such ss

found_either : (such : Callee → Bool) (k : Bool) (ss : Statements) (o : Option Statements) → statements_call such ss ≡ true → found_calls such o ≡ true → found_calls such (cond k (Some ss) o) ≡ true
found_either such true ss o f g = f
found_either such false ss o f g = g

handler_found : (such : Callee → Bool) (handlers : List Handler) (exception : Exception) → list_all (handler_calls such) handlers ≡ true → found_calls such (handler_of handlers exception) ≡ true
handler_found such [] exception m = refl
handler_found such (h ∷ hs) exception m =
    found_either such (named h.choices exception) h.statements (handler_of hs exception) (first_of_both (handler_calls such h) (list_all (handler_calls such) hs) m)
    (handler_found such hs exception (second_of_both (handler_calls such h) (list_all (handler_calls such) hs) m))

abbrev if_found : {A : Type 0} → (A → Bool) → Option A → Bool
if_found p None = true
if_found p (Some x) = p x

got_calls : {A : Type 0} (p : A → Bool) (xs : List A) (i : ℕ) → list_all p xs ≡ true → if_found p (slice_get xs i) ≡ true
got_calls p [] i m = refl
got_calls p (x ∷ xs) zero m = first_of_both (p x) (list_all p xs) m
got_calls p (x ∷ xs) (suc i) m = got_calls p xs i (second_of_both (p x) (list_all p xs) m)

unless_found : {A : Type 0} (p : A → Bool) (k : Bool) (o : Option A) → if_found p o ≡ true → if_found p (cond k None o) ≡ true
unless_found p true o m = refl
unless_found p false o m = m

numbered_calls : {A : Type 0} (p : A → Bool) (xs : List A) (n : ℕ) → list_all p xs ≡ true → if_found p (numbered xs n) ≡ true
numbered_calls p xs n m = unless_found p (nat_lt n 1) (slice_get xs (n - 1)) (got_calls p xs (n - 1) m)

body_found : (such : Callee → Bool) (o : Option Body) → if_found (body_calls such) o ≡ true → task_calls such o ≡ true
body_found such None m = refl
body_found such (Some b) m = m

among_calls : (such : Callee → Bool) (o : Option (List Body)) (operation : ℕ) → if_found (object_calls such) o ≡ true → task_calls such (among o operation) ≡ true
among_calls such None operation m = refl
among_calls such (Some os) operation m = body_found such (numbered os operation) (numbered_calls (body_calls such) os operation m)

-- the bodies of the object of an index call as those of an object of its number do
got_from : (such : Callee → Bool) (number : ℕ) (objects : List (List Body)) (i : ℕ) → objects_call such number objects ≡ true → if_found (object_calls (such_in such (number + i))) (slice_get objects i) ≡ true
got_from such number [] i m = refl
got_from such number (bodies ∷ objects) zero m =
    let same : number + 0 ≡ number = omega arith in
    ap (λ (n : ℕ). object_calls (such_in such n) bodies) same ∙ first_of_both (object_calls (such_in such number) bodies) (objects_call such (number + 1) objects) m
got_from such number (bodies ∷ objects) (suc i) m =
    let same : number + suc i ≡ number + 1 + i = omega arith in
    ap (λ (n : ℕ). if_found (object_calls (such_in such n)) (slice_get objects i)) same
    ∙ got_from such (number + 1) objects i (second_of_both (object_calls (such_in such number) bodies) (objects_call such (number + 1) objects) m)

object_found : (such : Callee → Bool) (objects : List (List Body)) (object : ℕ) → objects_call such 1 objects ≡ true → if_found (object_calls (such_in such object)) (numbered objects object) ≡ true
object_found such objects object m = by_test (nat_lt object 1) refl where
  by_test : (b : Bool) → nat_lt object 1 ≡ b → if_found (object_calls (such_in such object)) (cond b None (slice_get objects (object - 1))) ≡ true
  by_test true is = refl
  by_test false is =
      let some : 1 ≤ object = grind (arith, nat_tests, is) in
      let same : object ≡ 1 + (object - 1) = omega (arith, some) in
      ap (λ (n : ℕ). if_found (object_calls (such_in such n)) (slice_get objects (object - 1))) same ∙ got_from such 1 objects (object - 1) m

pub operation_calls : (such : Callee → Bool) (bodies : UnitBodies) (object operation : ℕ) → every_call such bodies ≡ true → task_calls (such_in such object) (operation_of bodies object operation) ≡ true
operation_calls such bodies object operation m =
    among_calls (such_in such object) (numbered bodies.objects object) operation
    (object_found such bodies.objects object (first_of_both (objects_call such 1 bodies.objects) (list_all (task_calls (such_in such 0)) bodies.tasks) m))

flat_calls : (such : Callee → Bool) (o : Option (Option Body)) → if_found (task_calls such) o ≡ true → task_calls such (flat o) ≡ true
flat_calls such None m = refl
flat_calls such (Some o) m = m

unless_task : (such : Callee → Bool) (k : Bool) (o : Option Body) → task_calls such o ≡ true → task_calls such (cond k None o) ≡ true
unless_task such true o m = refl
unless_task such false o m = m

pub task_found : (such : Callee → Bool) (bodies : UnitBodies) (actor : ℕ) → every_call such bodies ≡ true → task_calls (such_in such 0) (task_of bodies actor) ≡ true
task_found such bodies actor m =
    unless_task (such_in such 0) (nat_lt actor 11) (flat (slice_get bodies.tasks (actor - 11)))
    (flat_calls (such_in such 0) (slice_get bodies.tasks (actor - 11))
    (got_calls (task_calls (such_in such 0)) bodies.tasks (actor - 11) (second_of_both (objects_call such 1 bodies.objects) (list_all (task_calls (such_in such 0)) bodies.tasks) m)))

-- Blocks

module _ (kept : Kept) (w : World) (k : SoundWorld kept w) where
  elaborated_sound : (ds : List Declaration) (a : Activation) → list_all (declaration_calls (near kept w)) ds ≡ true → Sound kept how_run (elaborated w ds a)
  unfolding elaborated
  elaborated_sound [] a m = sound_end kept how_run (end.Next, a) refl
  elaborated_sound (d ∷ more) a m =
      sound_in_run kept (value w d.initial a) (λ v b. go_on (elaborated w more) (assigned d.target v b)) (value_sound kept w k d.initial a (first_of_both (declaration_calls (near kept w) d) (list_all (declaration_calls (near kept w)) more) m))
      (λ v b. sound_where kept (how_run (assigned d.target v b)) how_run (go_on (elaborated w more) (assigned d.target v b)) (assigned_goes d.target v b)
      (follows_run kept (elaborated w more) (λ c. elaborated_sound more c (second_of_both (declaration_calls (near kept w) d) (list_all (declaration_calls (near kept w)) more) m)) (assigned d.target v b)))

  -- a handler's statements run in a world of the same calls
  same_calls : (exception : Exception) → SoundWorld kept (in_handler exception w)
  same_calls exception = record { inner = k.inner; outer = k.outer }

  handling_sound : (exception : Exception) (o : Option Statements) (e : End) (a : Activation) → found_calls (near kept w) o ≡ true → how_end e ≡ ongoing → Sound kept how_run (handling w exception o (e, a))
  handling_sound exception None e a m is = sound_end kept how_run (e, a) is
  handling_sound exception (Some ss) e a m is = statements_sound kept (in_handler exception w) (same_calls exception) ss a m

  follows_handled : (handlers : List Handler) (ran : End × Activation) → list_all (handler_calls (near kept w)) handlers ≡ true → Follows kept (how_run ran) how_run (handled w handlers ran)
  follows_handled handlers (end.Next, a) m = sound_end kept how_run (end.Next, a) refl
  follows_handled handlers (end.Exit, a) m = sound_end kept how_run (end.Exit, a) refl
  follows_handled handlers (end.Return v, a) m = sound_end kept how_run (end.Return v, a) refl
  follows_handled handlers (end.Abandoned (cause.Raised exception), a) m = handling_sound exception (handler_of handlers exception) (end.Abandoned (cause.Raised exception)) a (handler_found (near kept w) handlers exception m) refl
  follows_handled handlers (end.Abandoned cause.Overrun, a) m = sound_end kept how_run (end.Abandoned cause.Overrun, a) refl
  follows_handled handlers (end.Abandoned (cause.Stopped is_idle), a) m = follows_end kept (how_by (cause.Stopped is_idle)) how_run (end.Abandoned (cause.Stopped is_idle), a) refl

  pub block_sound : (body : Body) (a : Activation) → body_calls (near kept w) body ≡ true → Sound kept how_run (block w body a)
  unfolding block
  block_sound body a m =
      let behind = second_of_both (list_all (declaration_calls (near kept w)) body.declarations) (statements_call (near kept w) body.statements && list_all (handler_calls (near kept w)) body.handlers) m in
      sound_run kept (elaborated w body.declarations a) (λ b. and_then (meanings w body.statements b) (handled w body.handlers)) (elaborated_sound body.declarations a (first_of_both (list_all (declaration_calls (near kept w)) body.declarations) (statements_call (near kept w) body.statements && list_all (handler_calls (near kept w)) body.handlers) m))
      (λ b. sound_then kept how_run how_run (meanings w body.statements b) (handled w body.handlers) (statements_sound kept w k body.statements b (first_of_both (statements_call (near kept w) body.statements) (list_all (handler_calls (near kept w)) body.handlers) behind))
      (λ ran. follows_handled body.handlers ran (second_of_both (statements_call (near kept w) body.statements) (list_all (handler_calls (near kept w)) body.handlers) behind)))

pub outcome_stops : (is_function : Bool) (e : End) (values : List ℤ) → how_result (cond is_function (function_outcome e) (procedure_outcome e values)) ≡ how_end e
outcome_stops true end.Next values = refl
outcome_stops true end.Exit values = refl
outcome_stops true (end.Return None) values = refl
outcome_stops true (end.Return (Some v)) values = refl
outcome_stops true (end.Abandoned why) values = refl
outcome_stops false end.Next values = refl
outcome_stops false end.Exit values = refl
outcome_stops false (end.Return v) values = refl
outcome_stops false (end.Abandoned why) values = refl

follows_closed : (kept : Kept) (body : Body) (ran : End × Activation) → Follows kept (how_run ran) how_got (closed body ran)
follows_closed kept body (e, a) = follows_end kept (how_end e) how_got (outcome_of body e a, (a.components, a.steps)) (outcome_stops body.is_function e (given_back body.parameters 0 a.slots []))

pub body_sound : (kept : Kept) (w : World) (k : SoundWorld kept w) (o : Option Body) (values components : List ℤ) (steps : ℕ) → task_calls (near kept w) o ≡ true → Sound kept how_got (body_meaning w o values components steps)
unfolding body_meaning
body_sound kept w k None values components steps m = sound_end kept how_got (Err (cause.Raised ProgramError), (components, steps)) refl
body_sound kept w k (Some body) values components steps m =
    sound_then kept how_run how_got (block w body (opened (bound body.parameters 0 0 values (replicate 132 (pos 0))) components steps 0)) (closed body)
    (block_sound kept w k body (opened (bound body.parameters 0 0 values (replicate 132 (pos 0))) components steps 0) m) (follows_closed kept body)

pub inner_sound : (kept : Kept) (bodies : UnitBodies) (object : ℕ) (outer : Callee → List ℤ → Asking Outcome) → every_call kept.such bodies ≡ true → ((c : Callee) (values : List ℤ) → internal c ≡ None → kept.such c ≡ true → Sound kept how_result (outer c values)) → (nested operation : ℕ) (values components : List ℤ) (steps : ℕ) → Sound kept how_got (inner_at bodies object outer nested operation values components steps)
unfolding inner_at
inner_sound kept bodies object outer m f zero operation values components steps = sound_end kept how_got (Err cause.Overrun, (components, steps)) refl
inner_sound kept bodies object outer m f (suc nested) operation values components steps =
    body_sound kept (record { inner = inner_at bodies object outer nested; outer = outer; object = object; is_task = false; handling = None })
    (record { inner = λ o v c s. inner_sound kept bodies object outer m f nested o v c s; outer = f }) (operation_of bodies object operation) values components steps (operation_calls kept.such bodies object operation m)
