-- The recorded ends of an actor in what was seen are what their texts mean (own).
use Rattle.std.specs.Prelude.{◌≡◌, ℕ, ℤ, List, [], ◌∷◌, ◌++◌}
use Rattle.rv_event.specs.declared.entry.Exit.{Exit}
use Rattle.rv_event.specs.declared.entry.Next.{Next}
use Rattle.rv_event.specs.declared.entry.Recorded.TheVariants.{Done}
use Rattle.rv_event.specs.declared.entry.Request.TheVariants.{Complete}
use Rattle.rv_history.specs.declared.limits.Limits.{Limits}
use Rattle.rv_history.specs.Legal.{Legal}
use Rattle.rv_turn.specs.Histories.{StartsWith, mine}
use Rattle.rv_meant.specs.Explained.{MeantEnd}
use Rattle.rv_behind.specs.Acting.{BodiesFit}
use Rattle.rv_behind.specs.Events.{by, bodies_at, catalogue_of, history_at}
use Rattle.rv_behind.specs.declared.event.Event.{Event}
use Rattle.rv_behind.specs.declared.event.Event.TheVariants.{Asks}

-- An end of an actor, behind what was seen before it, which is legal, is explained: with some front of that history the
-- operation's unit is loaded, each unit there has bodies of its own, whose calls fit, and by these bodies the end is meant.
pub record ExplainedEnd (limits : Limits) (actor : ℕ) (before : List Event) (scalars : List ℤ) (exit : Exit) : Type 0 where
  pub legal : Legal (history_at limits before)
  pub log : List Event
  pub from : StartsWith before log
  pub fit : BodiesFit log
  pub explained : MeantEnd (catalogue_of log) (bodies_at log) (history_at limits before) actor scalars exit

-- so is each end of the actor in what was seen
abbrev pub Explained : Limits → List Event → ℕ → Type 0
Explained limits seen actor =
    (before after : List Event) (scalars : List ℤ) (exit : Exit) (next : Next)
    → seen ≡ before ++ Asks actor (Complete scalars exit) (Done next) ∷ after → ExplainedEnd limits actor before scalars exit

-- where nothing was seen, nothing is to be explained
abbrev pub NothingToExplain : Type 0
NothingToExplain = (limits : Limits) (seen : List Event) (actor : ℕ) → mine by actor seen ≡ [] → Explained limits seen actor

-- what is explained stays so in all that is seen later, where the later ends are explained too
abbrev pub ExplainedStays : Type 0
ExplainedStays =
    (limits : Limits) (seen later : List Event) (actor : ℕ) → StartsWith later seen → Explained limits seen actor
    → ((before after : List Event) (scalars : List ℤ) (exit : Exit) (next : Next) → StartsWith before seen
    → later ≡ before ++ Asks actor (Complete scalars exit) (Done next) ∷ after → ExplainedEnd limits actor before scalars exit)
    → Explained limits later actor

-- so it stays whatever others add
abbrev pub OthersExplainNothing : Type 0
OthersExplainNothing =
    (limits : Limits) (seen later : List Event) (actor : ℕ) → StartsWith later seen → mine by actor later ≡ mine by actor seen
    → Explained limits seen actor → Explained limits later actor
