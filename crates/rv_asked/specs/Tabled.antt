-- A table of the list in force (own).
use Rattle.std.specs.Prelude.{IfSome}
use Rattle.rv_history.specs.History.{History, force}
use Rattle.rv_table.specs.Tables.{IsTable}
use Rattle.rv_asked.specs.declared.tabled.Tabled.{Tabled}

-- it is of the list in force over the units that are loaded, if there is one
abbrev pub IsTabled : Tabled → History → Type 0
IsTabled it h = IfSome it.table (λ table. IsTable (force h) h.shapes table)
