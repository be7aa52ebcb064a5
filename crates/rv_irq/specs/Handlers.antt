-- The handlers of interrupt lines (C.3.1).
use Rattle.std.specs.Prelude.{ℕ, List, Option, Some, None, slice_get}
use Rattle.rv_irq.specs.declared.Handler.{Handler}

-- what stands at a place, if there is such a place
abbrev pub standing_at : Option (Option Handler) → Option Handler
standing_at None = None
standing_at (Some handler) = handler

-- the handler of a line, if one is attached; no line past the last has one
abbrev pub handler_of : List (Option Handler) → ℕ → Option Handler
handler_of lines line = standing_at (slice_get lines line)
