-- Whom an entry speaks of (own).
use Rattle.std.specs.Prelude.{ℕ, ◌<◌}
use Rattle.rv_event.specs.Past.{next_of}
use Rattle.rv_event.specs.declared.entry.Entry.{Entry}
use Rattle.rv_event.specs.declared.entry.Entry.TheVariants.{Asked, Load, ListChange}
use Rattle.rv_event.specs.declared.entry.Next.{Next}
use Rattle.rv_event.specs.declared.entry.Next.TheVariants.{Nothing, HandedTo, Dropped}

-- the actor that is handed the object or dropped is below a number
abbrev pub IsNamedBelow : ℕ → Next → Type 0
IsNamedBelow actors Nothing = Unit {0}
IsNamedBelow actors (HandedTo actor) = actor < actors
IsNamedBelow actors (Dropped actor line) = actor < actors

-- all of whom an entry speaks are below a number
abbrev pub AreBelow : ℕ → Entry → Type 0
AreBelow actors (Asked actor request answer) =
    (actor < actors) × IsNamedBelow actors (next_of (Asked actor request answer))
AreBelow actors Load = Unit {0}
AreBelow actors ListChange = Unit {0}
