-- What a player has written of the acts that it carried out, by how that ended (own).
use Rattle.std.specs.Prelude.{◌≡◌, List, ◌++◌, Option, Some, None, Ok, Err}
use Rattle.std.specs.Io.KnownBytes.{Appends}
use Rattle.rv_script.specs.Prefixes.{WritesPrefix}
use Rattle.rv_fault.specs.declared.failure.Failure.TheVariants.{Refused, Memory, Io}
use Rattle.rv_fault.specs.declared.fault.ScriptFault.{ScriptFault}
use Rattle.rv_fault.specs.Written.{Known, Ended}
use Rattle.rv_play.specs.Acts.{Act}
use Rattle.rv_play.specs.Stages.{Stage}
use Rattle.rv_play.specs.Scripted.{Told, Playing, Plays, told_text}

-- acts were told, up to the end or a fault, and their text is written
pub record Whole (old new : Known) (p : Playing) (acts : List Act) (fault : Option ScriptFault) (last : Stage) : Type 0 where
  pub told : List Told
  pub plays : Plays p.stage acts told fault last
  pub written : Appends old new (told_text p.all told)

-- the first of them were told, and a prefix of their text is written
pub record Part (old new : Known) (p : Playing) (acts : List Act) : Type 0 where
  pub done : List Act
  pub rest : List Act
  pub split : acts ≡ done ++ rest
  pub last : Stage
  pub told : List Told
  pub plays : Plays p.stage done told None last
  pub written : WritesPrefix old new (told_text p.all told)

-- acts were carried out, from one player to another
abbrev pub Carries : Known → Known → Playing → Playing → List Act → Ended → Type 0
Carries old new p q acts (Ok x) = Whole old new p acts None q.stage × (q.all ≡ p.all)
Carries old new p q acts (Err (Refused fault)) = (last : Stage) × Whole old new p acts (Some fault) last
Carries old new p q acts (Err Memory) = Part old new p acts
Carries old new p q acts (Err (Io error)) = Part old new p acts
