-- Of which turn the notes are that are told and heard. (own)
use Rattle.atomic_table.specs.Seated.{TableId}
use Rattle.crossbeam_channel.specs.Claims.{view}
use Rattle.thread_rows.specs.OneTurn.{IsFor}
use Rattle.thread_rows.specs.declared.crews.notes.Teller.{Teller}
use Rattle.thread_rows.specs.declared.crews.notes.Hearer.{Hearer}

-- an end is for notes of this turn
abbrev pub Tells : TableId → Teller → Type 0
Tells turn teller = IsFor turn (view teller.pass)

abbrev pub Hears : TableId → Hearer → Type 0
Hears turn hearer = IsFor turn (view hearer.pass)
