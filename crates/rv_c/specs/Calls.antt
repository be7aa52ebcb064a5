-- What the calls of a caller in C say (own).
use Rattle.std.specs.Prelude.{◌≡◌, ℤ, ℕ, Bool, true, List, [], Result, Some}
use Rattle.rv_fault.specs.Written.{Ended, WritesScript}
use Rattle.rv_fault.specs.declared.failure.Failure.{Failure}
use Rattle.rv_play.specs.Scripted.{outcome_of}
use Rattle.rv_verdict.specs.Audits.{AuditsScript, SaysOfSection}
use Rattle.rv_c_text.specs.Laid as laying
use Rattle.rv_c_text.specs.declared.text.Text.{Text}
use Rattle.rv_c.specs.Endings.{run_status, verdict_status, StandsBehind, says}
use Rattle.rv_c.specs.Said.{Said}

-- a script is played: its journal is said or, where all is asked for, a line for each answer; behind it the fault that stopped it
abbrev pub SaysRun : Bool → List ℕ → Said → Type 0
SaysRun all script said =
    (ended : Ended) × (text line : List ℕ)
    × WritesScript (Some []) (Some text) (outcome_of all) script ended
    × StandsBehind line text ended
    × (said ≡ says (run_status ended) text line)

-- the journal that a script brings is judged: the line of the verdict is said, or the fault that the script is refused for
abbrev pub SaysVerdict : List ℕ → Said → Type 0
SaysVerdict script said =
    (ended : Result Bool Failure) × (text line : List ℕ)
    × AuditsScript true SaysOfSection (Some []) (Some text) script ended
    × StandsBehind line text ended
    × (said ≡ says (verdict_status ended) text line)

-- the caller gets the first bytes of all that is said, how long all is, where the line of the fault begins, and the status
abbrev pub Gets : Said → Text → Text → ℤ → Type 0
Gets said old new status = laying.Gets said.text said.fault old new × (status ≡ said.status)

-- the caller gets what is said of a script that is played
abbrev pub Plays : Bool → List ℕ → Text → Text → ℤ → Type 0
Plays all script old new status = (said : Said) × SaysRun all script said × Gets said old new status

-- the caller gets what is said of the journal that a script brings
abbrev pub Audits : List ℕ → Text → Text → ℤ → Type 0
Audits script old new status = (said : Said) × SaysVerdict script said × Gets said old new status
