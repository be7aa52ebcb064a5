-- What a host is at the close. (own)
use Rattle.std.specs.Prelude.{◌≡◌, ℕ, List, length, Some}
use Rattle.rv_code.specs.declared.body.UnitBodies.{UnitBodies}
use Rattle.rv_history.specs.History.{History}
use Rattle.rv_history.specs.Legal.{Legal}
use Rattle.rv_turn.specs.Histories.{mine, Each, NoStrangers, StartsWith}
use Rattle.rv_turn.specs.Passes.{Noted, StandsIn}
use Rattle.rv_behind.specs.Events.{by, log_of}
use Rattle.rv_port.specs.Traces.{Passing}
use Rattle.rv_behind.specs.declared.event.Event.{Event}

-- of an actor's events none that was seen is missing (own)
abbrev pub KeepsAll : List Event → Passing → Type 0
KeepsAll log p = (actor : ℕ) → StartsWith (mine by actor log) (mine by actor p.seen)

-- A pass has seen what the makers of these notes had seen; nothing else of it is changed. (own)
pub record HasMet (v : Passing) (notes : List (Noted Event)) (w : Passing) : Type 0 where
  pub later : StartsWith w.seen v.seen
  pub told : Each (λ note. StartsWith w.seen note.seen) notes
  pub same : w ≡ record v { seen = w.seen }

-- The host's journal is legal; it begins with all that the control and each port that came back had seen, and with all that
-- is noted of the ports that were lost. Of each port that came back it has as its actor's entries the port's own, and no
-- other; of the operator those that the control made, behind those that were there at first. Of a port that was lost it
-- keeps all entries that any of these had seen. An actor that was given no port has no entry. Control and ports had the
-- host's limits. The journal has no bodies; these were kept behind it, one of each unit. (own)
pub record IsClosed (control : Passing) (ports : List Passing) (notes : List (Noted Event)) (h : History) : Type 0 where
  pub legal : Legal h
  pub units : List UnitBodies
  pub brought : length units ≡ length h.shapes
  pub operator : StandsIn by (log_of h units) control
  pub ports_stand : Each (StandsIn by (log_of h units)) ports
  pub mine_is_own : Each (λ p. mine by p.actor (log_of h units) ≡ p.own) ports
  pub control_keeps : KeepsAll (log_of h units) control
  pub ports_keep : Each (KeepsAll (log_of h units)) ports
  pub notes_stay : Each (λ note. StartsWith (log_of h units) note.seen) notes
  pub strangers : NoStrangers by (log_of h units) control.given
  pub limits : control.about ≡ Some h.limits
  pub ports_limits : Each (λ p. p.about ≡ Some h.limits) ports
