-- Where nothing is told of a call whose names are loaded, its values fit.
use Rattle.std.proofs.Common.{◌≡◌, ℕ, Bool, true, false, List, [], ◌∷◌, ℤ, Some, None, refl, ap, sym, subst, ◌∙◌}
use Rattle.std.specs.Prelude.{if◌then◌else◌}
use Rattle.std.proofs.lemmas.Bool.{and_from, false≢true}
use Rattle.rv_event.specs.ReadBack.{IsThere}
use Rattle.rv_event.specs.declared.entry.Request.TheVariants as Requests
use Rattle.rv_history.specs.Fitting.{all_fit, call_fits, no_values, ranges_in}
use Rattle.rv_shape.specs.Catalogue.{Target, Nowhere, OnProtected, OnSuspension, target}
use Rattle.rv_shape.specs.Items.{◌>>=◌}
use Rattle.rv_shape.specs.Names.{object_number, operation_number}
use Rattle.rv_shape.specs.Shape.{Shape}
use Rattle.rv_step.specs.Lookup.{callee_of, full_name, request_of}
use Rattle.rv_step.specs.Names.{DottedWord}
use Rattle.rv_step.specs.StepText.{StepWords}
use Rattle.rv_step.specs.declared.step.Asked.TheVariants.{Call}
use Rattle.rv_step.specs.declared.step.Asker.{Asker}
use Rattle.rv_misfit.specs.Misfits.{asked_misfit, has_bodies, misfit_of, named_misfit, ranges_at, sort_of}
use Rattle.rv_misfit.specs.declared.misfit.Misfit.TheVariants.{NotOperator}
use Rattle.rv_misfit.proofs.Named.{target_there}
use Rattle.rv_misfit.proofs.Options.{bind, same}
use Rattle.rv_misfit.proofs.Values.{untold_misfit}

-- the names of a call are those of an operation that there is
called_there : (ss : List Shape) (o : DottedWord) (p : List ℕ) (found : ℕ × ℕ) → callee_of ss o p ≡ Some found → IsThere (target ss found.0 found.1)
called_there ss o p found e =
    let object = bind (object_number ss (full_name o)) (λ n. operation_number ss n p >>= λ m. Some (n, m)) found e in
    let operation = bind (operation_number ss object.0 p) (λ m. Some (object.0, m)) found object.2 in
    let is = same (object.0, operation.0) found operation.2 in
    subst (λ (f : ℕ × ℕ). IsThere (target ss f.0 f.1)) is (target_there ss object.0 operation.0 p operation.1)

none_given : (vs : List ℤ) → all_fit [] vs ≡ true → no_values vs ≡ true
none_given [] e = refl
none_given (v ∷ vs) e = absurd (false≢true e)

values_fit : (vs : List ℤ) (t : Target) → IsThere t → all_fit (ranges_at t) vs ≡ true → call_fits 0 vs t ≡ true
values_fit vs Nowhere there e = absurd there
values_fit vs (OnProtected site) there e = and_from (all_fit (ranges_in site.operation.parameters) vs) true e refl
values_fit vs (OnSuspension unit name wanted) there e = none_given vs e

untold_named : (ss : List Shape) (found : ℕ × ℕ) (vs : List ℤ) → IsThere (target ss found.0 found.1) → named_misfit ss (Some (Requests.Call found.0 found.1 vs)) ≡ None →
    call_fits 0 vs (target ss found.0 found.1) ≡ true
untold_named ss found vs there e =
    values_fit vs (target ss found.0 found.1) there (untold_misfit (record { object = found.0; operation = found.1 }) (ranges_at (target ss found.0 found.1)) vs e)

untold_asked : (ss : List Shape) (lines : ℕ) (asker : Asker) (o : DottedWord) (p : List ℕ) (vs : List ℤ) (found : ℕ × ℕ) → callee_of ss o p ≡ Some found →
    asked_misfit ss lines asker (Call o p vs) ≡ None → call_fits 0 vs (target ss found.0 found.1) ≡ true
untold_asked ss lines asker o p vs found is e = by_test (has_bodies (sort_of asker)) e
  where
    request : request_of ss (Call o p vs) ≡ Some (Requests.Call found.0 found.1 vs)
    request = ap (λ q. q >>= λ f. Some (Requests.Call f.0 f.1 vs)) is

    by_test : (b : Bool) → (if b then named_misfit ss (request_of ss (Call o p vs)) else Some NotOperator) ≡ None → call_fits 0 vs (target ss found.0 found.1) ≡ true
    by_test true f = untold_named ss found vs (called_there ss o p found is) (ap (named_misfit ss) (sym request) ∙ f)
    by_test false f = absurd (cc)

pub untold_call : (ss : List Shape) (lines : ℕ) (step : StepWords) (o : DottedWord) (p : List ℕ) (vs : List ℤ) (found : ℕ × ℕ) → step.asked ≡ Call o p vs → callee_of ss o p ≡ Some found →
    misfit_of ss lines step ≡ None → call_fits 0 vs (target ss found.0 found.1) ≡ true
untold_call ss lines step o p vs found asks is e = untold_asked ss lines step.asker o p vs found is (ap (asked_misfit ss lines step.asker) (sym asks) ∙ e)
