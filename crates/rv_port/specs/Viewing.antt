-- What the operator is shown. (own)
use Rattle.rv_behind.specs.Acting.{Does}
use Rattle.rv_behind.specs.Events.{by}
use Rattle.rv_behind.specs.declared.event.Ask.{Ask}
use Rattle.rv_behind.specs.declared.event.Reply.TheVariants as Gives
use Rattle.rv_port.specs.Traces.{Passing}
use Rattle.rv_port.specs.declared.fault.PageFault.{PageFault}
use Rattle.rv_port.specs.declared.fault.PageFault.TheVariants as PageFaults
use Rattle.rv_turn.specs.Passes.{Acted, IsWorn}

-- nothing is shown: there was no memory for it, or no act was left, and nothing changed (own)
abbrev pub NotViewed : Passing → PageFault → Passing → Type 0
NotViewed v PageFaults.NoMemory w = Acted by Does v Ask.View Gives.Unread w
NotViewed v PageFaults.Worn w = IsWorn v w
