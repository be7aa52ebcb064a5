-- The end of a body that ran outside the turn. (own)
use Rattle.std.specs.Prelude.{◌≡◌, ℕ, ℤ, List, [], if◌then◌else◌}
use Rattle.rv_event.specs.declared.entry.Request.{Request}
use Rattle.rv_event.specs.declared.entry.Request.TheVariants.{Complete}
use Rattle.rv_event.specs.declared.entry.Exit.{Exit}
use Rattle.rv_code.specs.Bodies.{UnitBodies}
use Rattle.rv_exec.specs.Asking.{Ran, Trace}
use Rattle.rv_exec.specs.Blocks.{operation_run_at}
use Rattle.rv_behind.specs.declared.event.Begun.{Begun}

-- the components that an end gives: a function's gives none (9.5.1)
abbrev pub given_by : Begun → List ℤ → List ℤ
given_by begun scalars = if begun.is_function then [] else scalars

-- The body of this operation ran by what bodies mean, on these components and with these values, asking what leads from one state
-- of the outside to another; and the request is for its end, with the components that it leaves and by its exit. (9.5.1)
pub record RanToEnd {S : Type 0} (went : S → Trace → S → Type 0) (before : S) (bodies : UnitBodies) (held : ℕ) (begun : Begun) (scalars arguments : List ℤ) (after : S) (request : Request) (exit : Exit) : Type 0 where
  pub left : List ℤ
  pub ran : Ran went before (operation_run_at bodies held begun.object begun.operation arguments scalars) after (exit, left)
  pub ends : request ≡ Complete (given_by begun left) exit
