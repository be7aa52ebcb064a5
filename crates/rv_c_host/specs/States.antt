-- What a caller may ask of the state of its host (own).
use Rattle.std.specs.Prelude.{if◌then◌else◌, length}
use Rattle.rv_event.specs.Past.{halted}
use Rattle.rv_history.specs.History.{History, version}
use Rattle.rv_history.specs.Owed.{room}
use Rattle.rv_c_host.specs.declared.state.State.{State}

-- how many entries there are and may still come, how many list changes there were, and whether the host is halted
abbrev pub state : History → State
state h = record { used = length h.past; room = room h; version = version h; halted = if halted h.past then 1 else 0 }
