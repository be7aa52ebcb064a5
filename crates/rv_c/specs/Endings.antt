-- How a call's status and the line behind its text tell how the call ended (own).
use Rattle.std.specs.Prelude.{◌≡◌, ◌⊎◌, ℤ, ℕ, pos, Bool, true, false, List, [], ◌∷◌, ◌++◌, length, codes, Result, Ok, Err}
use Rattle.std.specs.Fmt.{decimal}
use Rattle.rv_fault.specs.Written.{Ended}
use Rattle.rv_fault.specs.declared.failure.Failure.{Failure}
use Rattle.rv_fault.specs.declared.failure.Failure.TheVariants.{Refused, Memory, Io}
use Rattle.rv_fault.specs.declared.fault.ScriptFault.{ScriptFault}
use Rattle.rv_c.specs.Said.{Said}

-- the statuses of the program: 1 a script that is refused, 3 want of memory, 4 a read or a write that failed
abbrev pub failed_status : Failure → ℤ
failed_status (Refused fault) = pos 1
failed_status Memory = pos 3
failed_status (Io error) = pos 4

-- 0 where a script was carried out
abbrev pub run_status : Ended → ℤ
run_status (Ok x) = pos 0
run_status (Err failure) = failed_status failure

-- 0 for a journal that is legal, 1 for another
abbrev pub verdict_status : Result Bool Failure → ℤ
verdict_status (Ok true) = pos 0
verdict_status (Ok false) = pos 1
verdict_status (Err failure) = failed_status failure

-- the line of a fault tells the number of the script's line, and then words of the fault
abbrev pub IsLineOf : ScriptFault → List ℕ → Type 0
IsLineOf fault line = (words : List ℕ) × (line ≡ codes "script line " ++ (decimal fault.line ++ (codes ": " ++ (words ++ 10 ∷ []))))

-- Behind a text stands the fault's line where the script is refused, and else nothing. Where memory is refused nothing is said at all.
-- No read or write fails, since the script and the text are in memory.
abbrev pub StandsBehind : {A : Type 0} → List ℕ → List ℕ → Result A Failure → Type 0
StandsBehind line text (Ok found) = line ≡ []
StandsBehind line text (Err (Refused fault)) = IsLineOf fault line
StandsBehind line text (Err Memory) = (line ≡ []) × (text ≡ [])
StandsBehind line text (Err (Io error)) = ⊥

-- a text is said, with a line behind it, and this status
abbrev pub says : ℤ → List ℕ → List ℕ → Said
says status text line = record { status = status; text = text ++ line; fault = length text }

-- nothing is said, for want of memory
abbrev pub nothing : Said
nothing = says (pos 3) [] []

-- a script is refused behind this text, unless there is no memory to say so
abbrev pub Refuses : ScriptFault → List ℕ → Said → Type 0
Refuses fault text said = ((line : List ℕ) × IsLineOf fault line × (said ≡ says (pos 1) text line)) ⊎ (said ≡ nothing)
