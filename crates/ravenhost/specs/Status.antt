-- The status that the program ends with (own).
use Rattle.std.specs.Prelude.{ℕ, Result, Ok, Err}
use Rattle.rv_fault.specs.declared.failure.Failure.TheVariants.{Refused, Memory, Io}
use Rattle.ravenhost.specs.declared.status.Stop.{Stop}
use Rattle.ravenhost.specs.declared.status.Stop.TheVariants.{Usage, Told, Failed, Explained, Warned, BadFile, NoThread, CutOff, EndedItself, LeftBehind, NotLegal}

-- 1 a refused or cut script, one with notes that are errors or a journal that isn't legal, 2 usage or help, 3 want of memory or of a thread, 4 a failed
-- read or write, 5 a run that ended by itself, 6 one that left threads behind
abbrev pub failed_status : Stop → ℕ
failed_status Told = 0
failed_status (Failed (Refused fault)) = 1
failed_status Explained = 1
failed_status Warned = 1
failed_status CutOff = 1
failed_status NotLegal = 1
failed_status Usage = 2
failed_status (Failed Memory) = 3
failed_status NoThread = 3
failed_status (Failed (Io error)) = 4
failed_status BadFile = 4
failed_status EndedItself = 5
failed_status LeftBehind = 6

-- 0 where all was carried out, or told
abbrev pub status_of : {X : Type 0} → Result X Stop → ℕ
status_of (Ok x) = 0
status_of (Err stop) = failed_status stop
