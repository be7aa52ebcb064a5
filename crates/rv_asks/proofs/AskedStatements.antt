-- What statements ask.
use Rattle.std.proofs.Common.{◌≡◌, ℕ, zero, suc, ℤ, pos, List, [], ◌∷◌, Bool, true, false, cond, Option, Some, None, refl}
use Rattle.std.specs.List.{list_all}
use Rattle.std.specs.Prelude.{nat_le, length, int_lt, slice_index_or}
use Rattle.rv_event.specs.declared.entry.Exception.{Exception}
use Rattle.rv_event.specs.declared.entry.Exception.TheVariants.{ConstraintError}
use Rattle.rv_shape.specs.declared.kind.Range.{Range}
use Rattle.rv_shape.specs.Catalogue.{OperationNumber}
use Rattle.rv_shape.specs.Kinds.{holds}
use Rattle.rv_shape.specs.Shape.{Shape}
use Rattle.rv_code.specs.declared.statement.Place.{Place}
use Rattle.rv_code.specs.declared.statement.Place.TheVariants as place
use Rattle.rv_code.specs.declared.statement.Target.{Target}
use Rattle.rv_code.specs.Expressions.{Expression}
use Rattle.rv_code.specs.Statements.{Statement, null_statement, assign, choice, selection, while_loop, for_loop, exit_when, returns, returns_value, raises, reraises, calls, Statements, no_statements, and_statement, Branches, no_branches, and_branch, Alternatives, no_alternatives, and_alternative}
use Rattle.rv_fits.proofs.Both.{first_of_both, second_of_both}
use Rattle.rv_ranged.specs.Ranged.{Stand, place_keeps, target_keeps, result_given}
use Rattle.rv_exec.specs.declared.activation.Activation.{Activation}
use Rattle.rv_exec.specs.declared.end.Cause.TheVariants as cause
use Rattle.rv_exec.specs.declared.end.End.{End}
use Rattle.rv_exec.specs.declared.end.End.TheVariants as end
use Rattle.rv_exec.specs.Asking.{Asking, ended, and_then}
use Rattle.rv_exec.specs.Operators.{is_true}
use Rattle.rv_exec.specs.Activations.{put_at, settled, assigned, one_less, put_slot, steps_left, copied_next, copied_back, fits, span, value_before}
use Rattle.rv_exec.specs.Choices.{covered}
use Rattle.rv_exec.specs.Expressions.{on_value, value, arguments, passing}
use Rattle.rv_exec.specs.Statements.{abandons, on_step, step, go_on, again, turns, values_over, for_each, exit_where, raised_again, meaning, meanings, first_true, selected}
use Rattle.rv_exec.specs.World.{World, Run, Got}
use Rattle.rv_asks.specs.Asks.{Asks, Standing}
use Rattle.rv_asks.proofs.Values.{within_cases, set_fits, set_slot, set_apart}
use Rattle.rv_asks.proofs.Trees.{Left, IsKept, GotEnds, Any, ReturnIn, EndLeft, RunEnds, asks_if, asks_run, asks_next, asks_again}
use Rattle.rv_asks.proofs.Suited.{StatementSuits, StatementsSuit, BranchesSuit, AlternativesSuit}
use Rattle.rv_asks.proofs.Passed.{GivesSo, suits_passed}
use Rattle.rv_asks.proofs.AskedValues.{near, AskingWorld, value_asks, arguments_ask, passing_asks}

module _ (s : Stand) (here : Standing) where
  -- Targets

  put_kept : (p : Place) (range : Range) (v : ℤ) (a : Activation) → place_keeps s range p ≡ true → holds range v ≡ true → IsKept s a → IsKept s (put_at p v a)
  put_kept (place.Variable slot) range v a k h kept = (set_slot s.parameters a.slots slot v range k h kept.0, kept.1)
  put_kept (place.Component index) range v a k h kept = (kept.0, set_fits s.components a.components index v range k h kept.1)

  pub assigned_ends : (target : Target) (v : ℤ) (a : Activation) → target_keeps s target ≡ true → IsKept s a → RunEnds s here here (assigned target v a)
  assigned_ends target v a k kept =
      within_cases (λ r. RunEnds s here here (settled target a r)) target.range v (λ lies. (refl, put_kept target.place target.range v a k lies kept)) (refl, kept)

  next_ends : (more : Activation → End × Activation) (ran : End × Activation) → ((a : Activation) → IsKept s a → RunEnds s here here (more a)) → RunEnds s here here ran → RunEnds s here here (copied_next more ran)
  next_ends more (end.Next, a) f e = f a e.1
  next_ends more (end.Exit, a) f e = e
  next_ends more (end.Return v, a) f e = e
  next_ends more (end.Abandoned why, a) f e = e

  copied_ends : (targets : List Target) (index : ℕ) (values : List ℤ) (a : Activation) → list_all (target_keeps s) targets ≡ true → IsKept s a → RunEnds s here here (copied_back targets index values a)
  copied_ends [] index values a k kept = (refl, kept)
  copied_ends (target ∷ more) index values a k kept =
      next_ends (copied_back more (suc index) values) (assigned target (slice_index_or values index (pos 0)) a)
      (λ b still. copied_ends more (suc index) values b (second_of_both (target_keeps s target) (list_all (target_keeps s) more) k) still)
      (assigned_ends target (slice_index_or values index (pos 0)) a (first_of_both (target_keeps s target) (list_all (target_keeps s) more) k) kept)

  -- Ends

  exit_left : (k : Bool) → EndLeft s.result here here (cond k end.Exit end.Next)
  exit_left true = refl
  exit_left false = refl

  again_left : (handling : Option Exception) → Left here here (raised_again handling)
  again_left None = refl
  again_left (Some exception) = refl

  none_in : (result : Option Range) → ReturnIn result None
  none_in None = tt
  none_in (Some range) = tt

  value_in : (result : Option Range) (e : Expression) (v : ℤ) → result_given result e ≡ true → GivesSo e v → ReturnIn result (Some v)
  value_in None e v given g = tt
  value_in (Some range) e v given g = g range given

-- Steps and turns

module _ (shapes : List Shape) (s : Stand) (here : Standing) where
  less_asks : (next : OperationNumber) (n : ℕ) (a : Activation) (go : Activation → Run) → ((later : OperationNumber) (b : Activation) → IsKept s b → Asks shapes (RunEnds s here) later here (go b)) → IsKept s a
      → Asks shapes (RunEnds s here) next here (on_step a go (one_less n a))
  less_asks next zero a go f kept = (refl, kept)
  less_asks next (suc n) a go f kept = f next (record a { steps = n }) kept

  step_asks : (next : OperationNumber) (a : Activation) (go : Activation → Run) → ((later : OperationNumber) (b : Activation) → IsKept s b → Asks shapes (RunEnds s here) later here (go b)) → IsKept s a
      → Asks shapes (RunEnds s here) next here (step a go)
  unfolding step
  step_asks next a go f kept = less_asks next a.steps a go f kept

  turns_ask : (P : ℤ → Type 0) (n : ℕ) (condition : Activation → Asking Got) (body : Activation → Run) (next : OperationNumber) (a : Activation)
      → ((later : OperationNumber) (b : Activation) → IsKept s b → Asks shapes (GotEnds s P here) later here (condition b))
      → ((later : OperationNumber) (b : Activation) → IsKept s b → Asks shapes (RunEnds s here) later here (body b))
      → IsKept s a → Asks shapes (RunEnds s here) next here (turns n condition body a)
  unfolding turns
  turns_ask P zero condition body next a f g kept = (refl, kept)
  turns_ask P (suc n) condition body next a f g kept =
      asks_run shapes s here P next (condition a) (λ v b. cond (is_true v) (step b (λ c. and_then (body c) (again (turns n condition body)))) (ended (end.Next, b))) (f next a kept)
      (λ later v b p still. asks_if shapes (RunEnds s here) later here (is_true v) (step b (λ c. and_then (body c) (again (turns n condition body)))) (ended (end.Next, b))
      (step_asks later b (λ c. and_then (body c) (again (turns n condition body)))
      (λ last c more. asks_again shapes s here last (body c) (turns n condition body) (g last c more) (λ x d kept_then. turns_ask P n condition body x d f g kept_then)) still)
      (refl, still))

  values_ask : (n : ℕ) (is_reverse : Bool) (low high : ℤ) (slot : ℕ) (body : Activation → Run) (next : OperationNumber) (a : Activation) → nat_le (length s.parameters) slot ≡ true
      → ((later : OperationNumber) (b : Activation) → IsKept s b → Asks shapes (RunEnds s here) later here (body b))
      → IsKept s a → Asks shapes (RunEnds s here) next here (values_over n is_reverse low high slot body a)
  unfolding values_over
  values_ask zero is_reverse low high slot body next a apart g kept = (refl, kept)
  values_ask (suc n) is_reverse low high slot body next a apart g kept =
      step_asks next a (λ b. and_then (body (put_slot slot (value_before is_reverse low high n) b)) (again (values_over n is_reverse low high slot body)))
      (λ later b still. asks_again shapes s here later (body (put_slot slot (value_before is_reverse low high n) b)) (values_over n is_reverse low high slot body)
      (g later (put_slot slot (value_before is_reverse low high n) b) (set_apart s.parameters b.slots slot (value_before is_reverse low high n) apart still.0, still.1))
      (λ last c more. values_ask n is_reverse low high slot body last c apart g more)) kept

  each_asks : (is_reverse : Bool) (range : Range) (slot : ℕ) (body : Activation → Run) (low high : ℤ) (next : OperationNumber) (a : Activation) → nat_le (length s.parameters) slot ≡ true
      → ((later : OperationNumber) (b : Activation) → IsKept s b → Asks shapes (RunEnds s here) later here (body b))
      → IsKept s a → Asks shapes (RunEnds s here) next here (for_each is_reverse range slot body low high a)
  each_asks is_reverse range slot body low high next a apart g kept =
      asks_if shapes (RunEnds s here) next here (int_lt high low) (ended (end.Next, a)) (cond (fits range low high) (values_over (span low high) is_reverse low high slot body a) (ended (end.Abandoned (cause.Raised ConstraintError), a)))
      (refl, kept)
      (asks_if shapes (RunEnds s here) next here (fits range low high) (values_over (span low high) is_reverse low high slot body a) (ended (end.Abandoned (cause.Raised ConstraintError), a))
      (values_ask (span low high) is_reverse low high slot body next a apart g kept) (refl, kept))

-- Statements

module _ (shapes : List Shape) (s : Stand) (here : Standing) (w : World) (k : AskingWorld shapes s.operations s.components here w) where
  mutual
    unfolding meaning

    statement_asks : (x : Statement) (next : OperationNumber) (a : Activation) → StatementSuits shapes (near shapes w) s x → IsKept s a → Asks shapes (RunEnds s here) next here (meaning w x a)
    statement_asks null_statement next a m kept = (refl, kept)
    statement_asks (assign target e) next a m kept =
        asks_run shapes s here (GivesSo e) next (value w e a) (λ v b. ended (assigned target v b)) (value_asks shapes s here w k e next a m.1 kept) (λ later v b g more. assigned_ends s here target v b m.0 more)
    statement_asks (choice branches otherwise) next a m kept = branches_ask branches next (meanings w otherwise) a m.0 (λ later b more. statements_ask otherwise later b m.1 more) kept
    statement_asks (selection e alternatives) next a m kept =
        asks_run shapes s here (GivesSo e) next (value w e a) (selected w alternatives) (value_asks shapes s here w k e next a m.0 kept) (λ later v b g more. alternatives_ask alternatives later v b m.1 more)
    statement_asks (while_loop e ss) next a m kept =
        turns_ask shapes s here (GivesSo e) (suc (steps_left a)) (value w e) (meanings w ss) next a (λ later b more. value_asks shapes s here w k e later b m.0 more) (λ later b more. statements_ask ss later b m.1 more) kept
    statement_asks (for_loop slot is_reverse range low high ss) next a m kept =
        asks_run shapes s here (GivesSo low) next (value w low a) (λ v b. and_then (value w high b) (on_value abandons (for_each is_reverse range slot (meanings w ss) v))) (value_asks shapes s here w k low next a m.1 kept)
        (λ later v b g more. asks_run shapes s here (GivesSo high) later (value w high b) (for_each is_reverse range slot (meanings w ss) v) (value_asks shapes s here w k high later b m.2 more)
        (λ last u c h still. each_asks shapes s here is_reverse range slot (meanings w ss) v u last c m.0 (λ x d kept_then. statements_ask ss x d m.3 kept_then) still))
    statement_asks (exit_when e) next a m kept =
        asks_run shapes s here (GivesSo e) next (value w e a) (λ v b. ended (exit_where v, b)) (value_asks shapes s here w k e next a m kept) (λ later v b g more. (exit_left s here (is_true v), more))
    statement_asks returns next a m kept = ((refl, none_in s here s.result), kept)
    statement_asks (returns_value e) next a m kept =
        asks_run shapes s here (GivesSo e) next (value w e a) (λ v b. ended (end.Return (Some v), b)) (value_asks shapes s here w k e next a m.1 kept) (λ later v b g more. ((refl, value_in s here s.result e v m.0 g), more))
    statement_asks (raises exception) next a m kept = (refl, kept)
    statement_asks reraises next a m kept = (again_left s here w.handling, kept)
    statement_asks (calls c es targets) next a m kept =
        asks_run shapes s here Any next (passing w c (arguments w es [] a)) (λ given b. ended (copied_back targets 0 given b))
        (passing_asks shapes s here w k next c es (arguments w es [] a) m.0 (λ values p. suits_passed shapes s.operations c es values m.1 p) (arguments_ask shapes s here w k es next [] a m.2 kept))
        (λ later given b p more. copied_ends s here targets 0 given b m.3 more)

    pub statements_ask : (ss : Statements) (next : OperationNumber) (a : Activation) → StatementsSuit shapes (near shapes w) s ss → IsKept s a → Asks shapes (RunEnds s here) next here (meanings w ss a)
    statements_ask no_statements next a m kept = (refl, kept)
    statements_ask (and_statement x more) next a m kept =
        step_asks shapes s here next a (λ b. and_then (meaning w x b) (go_on (meanings w more)))
        (λ later b still. asks_next shapes s here later (meaning w x b) (meanings w more) (statement_asks x later b m.0 still) (λ last c then_kept. statements_ask more last c m.1 then_kept)) kept

    branches_ask : (branches : Branches) (next : OperationNumber) (otherwise : Activation → Run) (a : Activation) → BranchesSuit shapes (near shapes w) s branches
        → ((later : OperationNumber) (b : Activation) → IsKept s b → Asks shapes (RunEnds s here) later here (otherwise b)) → IsKept s a → Asks shapes (RunEnds s here) next here (first_true w branches otherwise a)
    branches_ask no_branches next otherwise a m f kept = f next a kept
    branches_ask (and_branch e ss more) next otherwise a m f kept =
        asks_run shapes s here (GivesSo e) next (value w e a) (λ v b. cond (is_true v) (meanings w ss b) (first_true w more otherwise b)) (value_asks shapes s here w k e next a m.0 kept)
        (λ later v b g still. asks_if shapes (RunEnds s here) later here (is_true v) (meanings w ss b) (first_true w more otherwise b) (statements_ask ss later b m.1 still) (branches_ask more later otherwise b m.2 f still))

    alternatives_ask : (alternatives : Alternatives) (next : OperationNumber) (v : ℤ) (a : Activation) → AlternativesSuit shapes (near shapes w) s alternatives → IsKept s a → Asks shapes (RunEnds s here) next here (selected w alternatives v a)
    alternatives_ask no_alternatives next v a m kept = (refl, kept)
    alternatives_ask (and_alternative choices ss more) next v a m kept =
        asks_if shapes (RunEnds s here) next here (covered choices v) (meanings w ss a) (selected w more v a) (statements_ask ss next a m.0 kept) (alternatives_ask more next v a m.1 kept)
