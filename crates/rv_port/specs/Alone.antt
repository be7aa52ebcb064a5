-- What a port leaves that was never called on. (own)
use Rattle.std.specs.Prelude.{◌≡◌, ℕ, ◌<◌, pos, nat_lt, if◌then◌else◌, true, List, [], ◌∷◌}
use Rattle.rv_event.specs.declared.entry.Request.TheVariants.{Quit}
use Rattle.rv_event.specs.declared.entry.Recorded.TheVariants as Words
use Rattle.rv_shape.specs.Catalogue.{first_task}
use Rattle.rv_behind.specs.declared.event.Event.{Event}
use Rattle.rv_behind.specs.declared.event.Event.TheVariants.{Asks}
use Rattle.rv_port.specs.Actors.{is_performer}
use Rattle.rv_behind.specs.Events.{catalogue_of}
use Rattle.rv_port.specs.Traces.{Passing}

-- the accepted quit of a task, and nothing else; of a line nothing (own)
abbrev pub quit_alone : ℕ → List Event
quit_alone actor = if nat_lt actor first_task then [] else Asks actor Quit (Words.Accepted (pos 0)) ∷ []

-- A port that may act, and never did: it has an act left, its actor is one that may have a port, and no event is its own.
-- (own)
pub record IsUnused (port : Passing) : Type 0 where
  pub act : 0 < port.left
  pub performer : is_performer (catalogue_of port.seen) port.actor ≡ true
  pub base : port.base ≡ []
  pub none : port.own ≡ []
