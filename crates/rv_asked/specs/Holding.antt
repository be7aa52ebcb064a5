-- What is kept of a past, to know about which call the list is asked, and for whom (own).
use Rattle.std.specs.Prelude.{◌≡◌, List}
use Rattle.rv_shape.specs.Shape.{Shape}
use Rattle.rv_event.specs.Past.{under_way}
use Rattle.rv_event.specs.declared.entry.Entry.{Entry}
use Rattle.rv_lasting.specs.Calls.{KeepsCalls}
use Rattle.rv_asked.specs.declared.holding.Holding.{Holding}

-- the last queued call of each actor, and the bodies that are under way
pub record Keeps (it : Holding) (shapes : List Shape) (past : List Entry) : Type 0 where
  pub calls : KeepsCalls it.calls past
  pub bodies : it.bodies.items ≡ under_way shapes past
