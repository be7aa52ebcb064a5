-- Of a table it may be known only that it is of these bodies somehow: then what its bodies come to on a trace is what these come to.
use Rattle.std.proofs.Common.{◌≡◌, ℕ, ℤ, List, [], ◌∷◌, subst}
use Rattle.std.proofs.Math.Logic.{∥∥₁_elim}
use Rattle.std.specs.Coded.{Coded-set, codes, ×_prop}
use Rattle.rv_code.specs.Bodies.{UnitBodies}
use Rattle.rv_event.specs.declared.entry.Exit.{Exit}
use Rattle.rv_event.specs.contracts.entry.Exit as exits
use Rattle.rv_event.specs.contracts.entry.Request as requests
use Rattle.rv_exec.specs.Asking.{Asking, ended, asking, Trace, Along}
use Rattle.rv_exec.specs.Blocks.{operation_run_at}
use Rattle.rv_exec.specs.Tasks.{task_run}

along_prop : {A : Type 0} → IsSet A → (w : Asking A) (trace : Trace) (end : A) → IsProp (Along w trace end)
along_prop set (ended a) [] end = set a end
along_prop set (ended a) (p ∷ trace) end = λ x y. absurd x
along_prop set (asking q go) [] end = λ x y. absurd x
along_prop set (asking q go) (p ∷ trace) end = ×_prop (Coded-set requests.the_row.coded q p.0) (along_prop set (go p.1) trace end)

exit_set : IsSet Exit
exit_set = hlevel (codes, Coded-set, exits.the_row.coded)

left_set : IsSet (Exit × List ℤ)
left_set = hlevel (codes, Coded-set, exits.the_row.coded)

-- the body of an operation
pub body_along : (flat bodies : UnitBodies) (held object operation : ℕ) (values components : List ℤ) (trace : Trace) (end : Exit × List ℤ)
    → ∥ flat ≡ bodies ∥₁ → Along (operation_run_at flat held object operation values components) trace end
    → Along (operation_run_at bodies held object operation values components) trace end
body_along flat bodies held object operation values components trace end same along =
    ∥∥₁_elim same (along_prop left_set (operation_run_at bodies held object operation values components) trace end)
    (λ is. subst (λ (b : UnitBodies). Along (operation_run_at b held object operation values components) trace end) is along)

-- a task
pub task_along : (flat bodies : UnitBodies) (actor requests : ℕ) (trace : Trace) (end : Exit)
    → ∥ flat ≡ bodies ∥₁ → Along (task_run flat actor requests) trace end → Along (task_run bodies actor requests) trace end
task_along flat bodies actor requests trace end same along =
    ∥∥₁_elim same (along_prop exit_set (task_run bodies actor requests) trace end)
    (λ is. subst (λ (b : UnitBodies). Along (task_run b actor requests) trace end) is along)
