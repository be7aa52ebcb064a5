-- Which roles may be played on a port. (own)
use Rattle.std.specs.Prelude.{⊤}
use Rattle.rv_port.specs.Ports.{Porting}
use Rattle.thread_rows.specs.Hearing.{Hears}
use Rattle.thread_rows.specs.declared.role.Role.{Role}
use Rattle.thread_rows.specs.declared.role.Role.TheVariants.{ToldReader, OpenReader, Beside, Reader}

-- who is told notes is told those of its own turn
abbrev pub Fits : Role → Porting → Type 0
Fits (ToldReader reader) port = Hears port.turn reader.notes
Fits (OpenReader ends) port = ⊤
Fits (Beside ends) port = ⊤
Fits Reader port = ⊤
