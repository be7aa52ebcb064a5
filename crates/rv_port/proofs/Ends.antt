-- What is shown of the ends that a port's bodies asked.
use Rattle.std.specs.Prelude.{◌≡◌, ℕ, ℤ, true, if◌then◌else◌, List, [], ◌∷◌, ◌++◌}
use Rattle.rv_shape.specs.Catalogue.{target, shares}
use Rattle.rv_event.specs.declared.entry.Exit.{Exit}
use Rattle.rv_event.specs.declared.entry.Next.{Next}
use Rattle.rv_event.specs.declared.entry.Recorded.TheVariants.{Done}
use Rattle.rv_event.specs.declared.entry.Request.TheVariants.{Complete}
use Rattle.rv_behind.specs.Acting.{BodiesFit}
use Rattle.rv_exec.specs.Asking.{Trace, Along}
use Rattle.rv_exec.specs.Blocks.{operation_run_at}
use Rattle.rv_turn.specs.Histories.{StartsWith}
use Rattle.rv_meant.specs.Asks.{held_behind, AreRecorded}
use Rattle.rv_meant.specs.Explained.{on_protected}
use Rattle.rv_behind.specs.Events.{bodies_at, catalogue_of}
use Rattle.rv_behind.specs.declared.event.Event.{Event}
use Rattle.rv_behind.specs.declared.event.Event.TheVariants.{Asks}
use Rattle.rv_accounts.specs.Explained.{ExplainedEnd}
use Rattle.rv_port.specs.Held.{asked_so_far, Owns}
use Rattle.rv_port.specs.Traces.{Passing, limits_in, Went}

-- What a port has seen begins with this, of whose units it was lent the bodies, which fit.
pub record IsLentBy (v : Passing) (log : List Event) : Type 0 where
  pub owns : Owns v
  pub from : StartsWith v.seen log
  pub fit : BodiesFit log

-- each end of the actor that came since in what was seen then is explained
abbrev pub EndsSinceAreExplained : Passing → Passing → Type 0
EndsSinceAreExplained v w =
    (before after : List Event) (scalars : List ℤ) (exit : Exit) (next : Next) → StartsWith before v.seen
    → w.seen ≡ before ++ Asks v.actor (Complete scalars exit) (Done next) ∷ after
    → ExplainedEnd (limits_in v.about) v.actor before scalars exit

-- The body of an operation that started on a port ran, and asked this up to here: of the bodies that the port was lent, of an actor
-- that asked first what was before the start, and then, as the last, what opened it. Its actor holds as many objects then as at the
-- start: it isn't left in a body that this one called.
pub record RanSo (u : Passing) (log : List Event) (early opening : Trace) (object operation : ℕ) (values components left : List ℤ) (exit : Exit) (trace : Trace) (body : Passing) : Type 0 where
  pub lent : IsLentBy u log
  pub asked : asked_so_far u ≡ early ++ opening
  pub recorded : AreRecorded (early ++ opening)
  pub loaded : on_protected (target (catalogue_of log) object operation) ≡ true
  pub along : Along (operation_run_at (bodies_at log) (held_behind 0 (early ++ opening)) object operation values components) trace (exit, left)
  pub went : Went u trace body
  pub back : held_behind (held_behind 0 (early ++ opening)) trace ≡ held_behind 0 (early ++ opening)

-- what an end gives of these scalars, none for a function (9.5.1)
abbrev pub given_at : List Event → ℕ → ℕ → List ℤ → List ℤ
given_at at object operation left = if shares (target (catalogue_of at) object operation) then [] else left
