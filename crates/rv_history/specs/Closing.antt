-- What a halted host still records (own).
use Rattle.std.specs.Prelude.{Bool, false}
use Rattle.rv_event.specs.declared.entry.Entry.{Entry}
use Rattle.rv_event.specs.declared.entry.Entry.TheVariants.{Asked, Load, ListChange}
use Rattle.rv_history.specs.Due.{goes_on}

-- the end of a body, a settle, a resume or a quit
abbrev pub closes : Entry → Bool
closes (Asked actor request word) = goes_on request
closes Load = false
closes ListChange = false
