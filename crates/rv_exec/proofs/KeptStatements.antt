-- What is kept of statements.
use Rattle.std.proofs.Common.{◌≡◌, ℕ, zero, suc, ℤ, pos, List, [], ◌∷◌, Bool, true, false, cond, refl, Option, Some, None, Result, Ok, Err}
use Rattle.std.specs.Prelude.{◌&&◌, int_lt, slice_index_or}
use Rattle.rv_event.specs.declared.entry.Exception.{Exception}
use Rattle.rv_event.specs.declared.entry.Exception.TheVariants.{ConstraintError}
use Rattle.rv_shape.specs.declared.kind.Range.{Range}
use Rattle.rv_code.specs.declared.statement.Target.{Target}
use Rattle.rv_fits.proofs.Both.{first_of_both, second_of_both}
use Rattle.rv_fits.specs.Calls.{expression_calls, expressions_call, statement_calls, statements_call, branches_call, alternatives_call}
use Rattle.rv_code.specs.Statements.{Statement, null_statement, assign, choice, selection, while_loop, for_loop, exit_when, returns, returns_value, raises, reraises, calls, Statements, no_statements, and_statement, Branches, no_branches, and_branch, Alternatives, no_alternatives, and_alternative}
use Rattle.rv_exec.specs.declared.activation.Activation.{Activation}
use Rattle.rv_exec.specs.declared.end.Cause.{Cause}
use Rattle.rv_exec.specs.declared.end.Cause.TheVariants as cause
use Rattle.rv_exec.specs.declared.end.End.{End}
use Rattle.rv_exec.specs.declared.end.End.TheVariants as end
use Rattle.rv_exec.specs.Asking.{Asking, ended, and_then}
use Rattle.rv_exec.specs.Operators.{is_true, within}
use Rattle.rv_exec.specs.Activations.{settled, assigned, stepped, put_slot, steps_left, copied_next, copied_back, fits, span, value_before}
use Rattle.rv_exec.specs.Choices.{covered}
use Rattle.rv_exec.specs.Expressions.{on_value, value, arguments, passing}
use Rattle.rv_exec.specs.Statements.{abandons, on_step, step, go_on, again, turns, values_over, for_each, exit_where, raised_again, meaning, meanings, first_true, selected}
use Rattle.rv_exec.specs.World.{World, Run, Got}
use Rattle.rv_exec.proofs.Keeping.{ongoing, how_result, how_got, how_end, how_run, Kept, Sound, sound_end, sound_if, sound_in_run, sound_run, sound_turn}
use Rattle.rv_exec.proofs.KeptValues.{near, within_goes, SoundWorld, value_sound, arguments_sound, passing_sound}

-- Ends that never stop

settled_goes : (target : Target) (a : Activation) (r : Result ℤ Cause) → how_result r ≡ ongoing → how_run (settled target a r) ≡ ongoing
settled_goes target a (Ok v) e = refl
settled_goes target a (Err why) e = e

pub assigned_goes : (target : Target) (v : ℤ) (a : Activation) → how_run (assigned target v a) ≡ ongoing
assigned_goes target v a = settled_goes target a (within target.range v) (within_goes target.range v)

next_goes : (more : Activation → End × Activation) (ran : End × Activation) → ((a : Activation) → how_run (more a) ≡ ongoing) → how_run ran ≡ ongoing → how_run (copied_next more ran) ≡ ongoing
next_goes more (end.Next, a) f e = f a
next_goes more (end.Exit, a) f e = refl
next_goes more (end.Return v, a) f e = refl
next_goes more (end.Abandoned why, a) f e = e

copied_goes : (targets : List Target) (index : ℕ) (values : List ℤ) (a : Activation) → how_run (copied_back targets index values a) ≡ ongoing
copied_goes [] index values a = refl
copied_goes (target ∷ more) index values a =
    next_goes (copied_back more (suc index) values) (assigned target (slice_index_or values index (pos 0)) a) (λ b. copied_goes more (suc index) values b) (assigned_goes target (slice_index_or values index (pos 0)) a)

exit_goes : (k : Bool) → how_end (cond k end.Exit end.Next) ≡ ongoing
exit_goes true = refl
exit_goes false = refl

again_goes : (handling : Option Exception) → how_end (end.Abandoned (raised_again handling)) ≡ ongoing
again_goes None = refl
again_goes (Some exception) = refl

-- Steps and turns

on_step_sound : (kept : Kept) (a : Activation) (go : Activation → Run) (o : Option Activation) → ((b : Activation) → Sound kept how_run (go b)) → Sound kept how_run (on_step a go o)
on_step_sound kept a go None f = sound_end kept how_run (end.Abandoned cause.Overrun, a) refl
on_step_sound kept a go (Some b) f = f b

step_sound : (kept : Kept) (a : Activation) (go : Activation → Run) → ((b : Activation) → Sound kept how_run (go b)) → Sound kept how_run (step a go)
unfolding step
step_sound kept a go f = on_step_sound kept a go (stepped a) f

turns_sound : (kept : Kept) (n : ℕ) (condition : Activation → Asking Got) (body : Activation → Run) (a : Activation) → ((b : Activation) → Sound kept how_got (condition b)) → ((b : Activation) → Sound kept how_run (body b)) → Sound kept how_run (turns n condition body a)
unfolding turns
turns_sound kept zero condition body a f g = sound_end kept how_run (end.Abandoned cause.Overrun, a) refl
turns_sound kept (suc n) condition body a f g =
    sound_in_run kept (condition a) (λ v b. cond (is_true v) (step b (λ c. and_then (body c) (again (turns n condition body)))) (ended (end.Next, b))) (f a)
    (λ v b. sound_if kept (is_true v) how_run (step b (λ c. and_then (body c) (again (turns n condition body)))) (ended (end.Next, b))
    (step_sound kept b (λ c. and_then (body c) (again (turns n condition body))) (λ c. sound_turn kept (body c) (turns n condition body) (g c) (λ d. turns_sound kept n condition body d f g)))
    (sound_end kept how_run (end.Next, b) refl))

values_sound : (kept : Kept) (n : ℕ) (is_reverse : Bool) (low high : ℤ) (slot : ℕ) (body : Activation → Run) (a : Activation) → ((b : Activation) → Sound kept how_run (body b)) → Sound kept how_run (values_over n is_reverse low high slot body a)
unfolding values_over
values_sound kept zero is_reverse low high slot body a g = sound_end kept how_run (end.Next, a) refl
values_sound kept (suc n) is_reverse low high slot body a g =
    step_sound kept a (λ b. and_then (body (put_slot slot (value_before is_reverse low high n) b)) (again (values_over n is_reverse low high slot body)))
    (λ b. sound_turn kept (body (put_slot slot (value_before is_reverse low high n) b)) (values_over n is_reverse low high slot body) (g (put_slot slot (value_before is_reverse low high n) b))
    (λ c. values_sound kept n is_reverse low high slot body c g))

each_sound : (kept : Kept) (is_reverse : Bool) (range : Range) (slot : ℕ) (body : Activation → Run) (low high : ℤ) (a : Activation) → ((b : Activation) → Sound kept how_run (body b)) → Sound kept how_run (for_each is_reverse range slot body low high a)
each_sound kept is_reverse range slot body low high a g =
    sound_if kept (int_lt high low) how_run (ended (end.Next, a)) (cond (fits range low high) (values_over (span low high) is_reverse low high slot body a) (ended (end.Abandoned (cause.Raised ConstraintError), a)))
    (sound_end kept how_run (end.Next, a) refl)
    (sound_if kept (fits range low high) how_run (values_over (span low high) is_reverse low high slot body a) (ended (end.Abandoned (cause.Raised ConstraintError), a))
    (values_sound kept (span low high) is_reverse low high slot body a g)
    (sound_end kept how_run (end.Abandoned (cause.Raised ConstraintError), a) refl))

module _ (kept : Kept) (w : World) (k : SoundWorld kept w) where
  mutual
    unfolding meaning

    statement_sound : (s : Statement) (a : Activation) → statement_calls (near kept w) s ≡ true → Sound kept how_run (meaning w s a)
    statement_sound null_statement a m = sound_end kept how_run (end.Next, a) refl
    statement_sound (assign target e) a m = sound_in_run kept (value w e a) (λ v b. ended (assigned target v b)) (value_sound kept w k e a m) (λ v b. sound_end kept how_run (assigned target v b) (assigned_goes target v b))
    statement_sound (choice branches otherwise) a m =
        branches_sound branches (meanings w otherwise) a (first_of_both (branches_call (near kept w) branches) (statements_call (near kept w) otherwise) m)
        (λ b. statements_sound otherwise b (second_of_both (branches_call (near kept w) branches) (statements_call (near kept w) otherwise) m))
    statement_sound (selection e alternatives) a m =
        sound_in_run kept (value w e a) (selected w alternatives) (value_sound kept w k e a (first_of_both (expression_calls (near kept w) e) (alternatives_call (near kept w) alternatives) m))
        (λ v b. alternatives_sound alternatives v b (second_of_both (expression_calls (near kept w) e) (alternatives_call (near kept w) alternatives) m))
    statement_sound (while_loop e ss) a m =
        turns_sound kept (suc (steps_left a)) (value w e) (meanings w ss) a (λ b. value_sound kept w k e b (first_of_both (expression_calls (near kept w) e) (statements_call (near kept w) ss) m))
        (λ b. statements_sound ss b (second_of_both (expression_calls (near kept w) e) (statements_call (near kept w) ss) m))
    statement_sound (for_loop slot is_reverse range low high ss) a m =
        let bounds = first_of_both (expression_calls (near kept w) low && expression_calls (near kept w) high) (statements_call (near kept w) ss) m in
        sound_in_run kept (value w low a) (λ v b. and_then (value w high b) (on_value abandons (for_each is_reverse range slot (meanings w ss) v)))
        (value_sound kept w k low a (first_of_both (expression_calls (near kept w) low) (expression_calls (near kept w) high) bounds))
        (λ v b. sound_in_run kept (value w high b) (for_each is_reverse range slot (meanings w ss) v) (value_sound kept w k high b (second_of_both (expression_calls (near kept w) low) (expression_calls (near kept w) high) bounds))
        (λ u c. each_sound kept is_reverse range slot (meanings w ss) v u c (λ d. statements_sound ss d (second_of_both (expression_calls (near kept w) low && expression_calls (near kept w) high) (statements_call (near kept w) ss) m))))
    statement_sound (exit_when e) a m = sound_in_run kept (value w e a) (λ v b. ended (exit_where v, b)) (value_sound kept w k e a m) (λ v b. sound_end kept how_run (exit_where v, b) (exit_goes (is_true v)))
    statement_sound returns a m = sound_end kept how_run (end.Return None, a) refl
    statement_sound (returns_value e) a m = sound_in_run kept (value w e a) (λ v b. ended (end.Return (Some v), b)) (value_sound kept w k e a m) (λ v b. sound_end kept how_run (end.Return (Some v), b) refl)
    statement_sound (raises exception) a m = sound_end kept how_run (end.Abandoned (cause.Raised exception), a) refl
    statement_sound reraises a m = sound_end kept how_run (end.Abandoned (raised_again w.handling), a) (again_goes w.handling)
    statement_sound (calls c es targets) a m =
        sound_in_run kept (passing w c (arguments w es [] a)) (λ given b. ended (copied_back targets 0 given b))
        (passing_sound kept w k c (arguments w es [] a) (first_of_both (near kept w c) (expressions_call (near kept w) es) m) (arguments_sound kept w k es [] a (second_of_both (near kept w c) (expressions_call (near kept w) es) m)))
        (λ given b. sound_end kept how_run (copied_back targets 0 given b) (copied_goes targets 0 given b))

    pub statements_sound : (ss : Statements) (a : Activation) → statements_call (near kept w) ss ≡ true → Sound kept how_run (meanings w ss a)
    statements_sound no_statements a m = sound_end kept how_run (end.Next, a) refl
    statements_sound (and_statement s more) a m =
        step_sound kept a (λ b. and_then (meaning w s b) (go_on (meanings w more)))
        (λ b. sound_run kept (meaning w s b) (meanings w more) (statement_sound s b (first_of_both (statement_calls (near kept w) s) (statements_call (near kept w) more) m))
        (λ c. statements_sound more c (second_of_both (statement_calls (near kept w) s) (statements_call (near kept w) more) m)))

    branches_sound : (branches : Branches) (otherwise : Activation → Run) (a : Activation) → branches_call (near kept w) branches ≡ true → ((b : Activation) → Sound kept how_run (otherwise b)) → Sound kept how_run (first_true w branches otherwise a)
    branches_sound no_branches otherwise a m f = f a
    branches_sound (and_branch e ss more) otherwise a m f =
        let here = first_of_both (expression_calls (near kept w) e && statements_call (near kept w) ss) (branches_call (near kept w) more) m in
        sound_in_run kept (value w e a) (λ v b. cond (is_true v) (meanings w ss b) (first_true w more otherwise b))
        (value_sound kept w k e a (first_of_both (expression_calls (near kept w) e) (statements_call (near kept w) ss) here))
        (λ v b. sound_if kept (is_true v) how_run (meanings w ss b) (first_true w more otherwise b) (statements_sound ss b (second_of_both (expression_calls (near kept w) e) (statements_call (near kept w) ss) here))
        (branches_sound more otherwise b (second_of_both (expression_calls (near kept w) e && statements_call (near kept w) ss) (branches_call (near kept w) more) m) f))

    alternatives_sound : (alternatives : Alternatives) (v : ℤ) (a : Activation) → alternatives_call (near kept w) alternatives ≡ true → Sound kept how_run (selected w alternatives v a)
    alternatives_sound no_alternatives v a m = sound_end kept how_run (end.Abandoned (cause.Raised ConstraintError), a) refl
    alternatives_sound (and_alternative choices ss more) v a m =
        sound_if kept (covered choices v) how_run (meanings w ss a) (selected w more v a) (statements_sound ss a (first_of_both (statements_call (near kept w) ss) (alternatives_call (near kept w) more) m))
        (alternatives_sound more v a (second_of_both (statements_call (near kept w) ss) (alternatives_call (near kept w) more) m))
