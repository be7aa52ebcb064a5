-- What is told of a unit that is loaded.
use Rattle.std.proofs.Common.{◌≡◌, ℕ, ◌+◌, List, [], ◌∷◌, ◌++◌, map, refl, ap, ◌∙◌, subst, sym, append_assoc}
use Rattle.std.specs.Prelude.{Option, Result, Ok, Err, IfOk, OnOk}
use Rattle.rv_access.specs.Words.{Words}
use Rattle.rv_code.specs.Bodies as t
use Rattle.rv_code.specs.BodyView.{maybe_body_view}
use Rattle.rv_code.specs.declared.body.Body.{Body}
use Rattle.rv_shape.specs.Shape.{Shape}
use Rattle.rv_never.specs.Telling.{TellsUnit, TellsUnits}
use Rattle.rv_never.specs.Written.{AreCallsOf, AreOfTasks, IsOfTask}
use Rattle.rv_never.specs.declared.calls.TaskCalls.{TaskCalls}
use Rattle.rv_never.specs.declared.calls.UnitCalls.{UnitCalls}

-- one task more, before others
pub tasks_more : {X E : Type 0} (actor : ℕ) (body : Option Body) (bodies others : List (Option Body)) (task : TaskCalls) (old pushed new : List TaskCalls) (result : Result X E) → bodies ≡ body ∷ others
    → IsOfTask actor (maybe_body_view body) task → pushed ≡ old ++ task ∷ []
    → OnOk result ((made : List TaskCalls) × AreOfTasks (actor + 1) (map maybe_body_view others) made × (new ≡ pushed ++ made))
    → OnOk result ((made : List TaskCalls) × AreOfTasks actor (map maybe_body_view bodies) made × (new ≡ old ++ made))
tasks_more actor body bodies others task old pushed new (Ok x) split of push made = (
  task ∷ made.0,
  subst (λ (bs : List (Option Body)). AreOfTasks actor (map maybe_body_view bs) (task ∷ made.0)) (sym split) (task, made.0, of, made.1, refl),
  made.2 ∙ (ap (λ (ts : List TaskCalls). ts ++ made.0) push ∙ append_assoc old (task ∷ []) made.0),
)
tasks_more actor body bodies others task old pushed new (Err e) split of push made = made

pub told_unit : {X E : Type 0} (before after : List Shape) (shape : Shape) (bodies : t.UnitBodies) (calls : UnitCalls) (list : List Words) (clock : ℕ) (bytes : X → List ℕ) (result : Result X E)
    → AreCallsOf before bodies calls → after ≡ before ++ shape ∷ [] → IfOk result (λ text. TellsUnits before after (calls ∷ []) list clock (bytes text))
    → IfOk result (λ text. TellsUnit before shape bodies list clock (bytes text))
told_unit before after shape bodies calls list clock bytes (Ok x) are is told =
    (calls, are, subst (λ (shapes : List Shape). TellsUnits before shapes (calls ∷ []) list clock (bytes x)) is told)
told_unit before after shape bodies calls list clock bytes (Err e) are is told = told
