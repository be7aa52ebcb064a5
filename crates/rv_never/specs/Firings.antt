-- What comes of it that a line fires, by the list and the ceilings (own; C.3, D.3). Whether others hold the object isn't looked at.
use Rattle.std.specs.Prelude.{ℕ, Bool, true, false, List, Option, Some, None}
use Rattle.rv_access.specs.Lines.{decides, grants}
use Rattle.rv_access.specs.Words.{Words}
use Rattle.rv_shape.specs.Catalogue.{OperationNumber, handler, place, target}
use Rattle.rv_shape.specs.Shape.{Shape}
use Rattle.rv_never.specs.Denied.{interrupts, names_of}
use Rattle.rv_never.specs.Nevers.{is_below_at, line_priority}
use Rattle.rv_never.specs.declared.firing.Firing.{Firing}
use Rattle.rv_never.specs.declared.firing.Firing.TheVariants.{Unattached, Denied, TooLow, Passes}

-- by whether the ceiling is below the line's priority
abbrev pub by_ceiling : Bool → Firing
by_ceiling true = TooLow
by_ceiling false = Passes

-- by whether the list grants the handler to the lines, else the number of the line of the list that decides, 0 if none does
abbrev pub by_grant : Bool → ℕ → Bool → Firing
by_grant true number low = by_ceiling low
by_grant false number low = Denied number

-- by the names of the handler
abbrev pub by_handler : List Words → ℕ → Bool → Option (List ℕ × List ℕ) → Firing
by_handler list clock low None = Unattached
by_handler list clock low (Some names) =
    by_grant (grants list interrupts names.0 names.1 clock) (decides list interrupts names.0 names.1 clock) low

-- by its numbers
abbrev pub firing_at : List Shape → List Words → ℕ → ℕ → Option OperationNumber → Firing
firing_at shapes list clock line None = Unattached
firing_at shapes list clock line (Some at) =
    by_handler list clock (is_below_at (line_priority line) (place shapes at.object)) (names_of (target shapes at.object at.operation))

-- what comes of it that a line fires at a tick
abbrev pub firing_of : List Shape → List Words → ℕ → ℕ → Firing
firing_of shapes list clock line = firing_at shapes list clock line (handler shapes line)
