-- What is written of a script's text, by how the run over it ended (own).
use Rattle.std.specs.Prelude.{ℕ, List, [], Option, Some, None, Result, Ok, Err, ◌≡◌}
use Rattle.std.specs.Io.KnownBytes.{Appends}
use Rattle.rv_script.specs.Prefixes.{WritesPrefix}
use Rattle.rv_script.specs.Whole.{IsScript, IsRefused}
use Rattle.rv_script.specs.declared.read.TextError.{TextError}
use Rattle.rv_fault.specs.declared.failure.Failure.{Failure}
use Rattle.rv_fault.specs.declared.failure.Failure.TheVariants.{Refused, Memory, Io}
use Rattle.rv_fault.specs.declared.fault.ScriptFault.{ScriptFault}
use Rattle.rv_fault.specs.Faults.{fault_of}

-- what a writer holds, where it tells
abbrev pub Known : Type 0
Known = Option (List ℕ)

-- how a run ended
abbrev pub Ended : Type 0
Ended = Result (Unit {0}) Failure

-- nothing that the script is refused for: memory or a call failed
abbrev pub IsNoFault : Failure → Type 0
IsNoFault (Refused told) = ⊥
IsNoFault Memory = Unit {0}
IsNoFault (Io error) = Unit {0}

-- a text is written, or, where memory or a write failed, a prefix of it
abbrev pub Puts : Known → Known → List ℕ → Ended → Type 0
Puts old new text (Ok x) = Appends old new text
Puts old new text (Err (Refused told)) = ⊥
Puts old new text (Err Memory) = WritesPrefix old new text
Puts old new text (Err (Io error)) = WritesPrefix old new text

-- what there is to write of a script: its text and the fault that stops it, if one does; and the texts of its first parts
pub record Outcome : Type 1 where
  pub Is : List ℕ → Option ScriptFault → Type 0
  pub Begins : List ℕ → Type 0

-- a prefix of the text of first parts is written
pub record WritesSome (old new : Known) (Begins : List ℕ → Type 0) : Type 0 where
  pub text : List ℕ
  pub begins : Begins text
  pub written : WritesPrefix old new text

-- a text is written that ends with this fault, or with none
pub record WritesAll (old new : Known) (Is : List ℕ → Option ScriptFault → Type 0) (fault : Option ScriptFault) : Type 0 where
  pub text : List ℕ
  pub is : Is text fault
  pub written : Appends old new text

-- the whole text is written, and its fault is told; where memory, a read or a write failed, a prefix of what came before
abbrev pub Writes : Known → Known → Outcome → Ended → Type 0
Writes old new outcome (Ok x) = WritesAll old new outcome.Is None
Writes old new outcome (Err (Refused told)) = WritesAll old new outcome.Is (Some told)
Writes old new outcome (Err Memory) = WritesSome old new outcome.Begins
Writes old new outcome (Err (Io error)) = WritesSome old new outcome.Begins

-- nothing is written of bytes that are no script, and that is told
abbrev pub refused_bytes : TextError → Outcome
refused_bytes error = record {
  Is = λ text fault. (text ≡ []) × (fault ≡ Some (fault_of error));
  Begins = λ text. text ≡ [];
}

-- this of bytes that are a script, and that of bytes that are refused
pub record OverBytes (bytes : List ℕ) (Said : Type 0) (Of : TextError → Type 0) : Type 0 where
  pub text : IsScript bytes → Said
  pub refused : (error : TextError) → IsRefused bytes error → Of error

-- what there is to write of a script is written; bytes that are none are refused
abbrev pub WritesScript : Known → Known → (List ℕ → Outcome) → List ℕ → Ended → Type 0
WritesScript old new outcome_of bytes result =
    OverBytes bytes (Writes old new (outcome_of bytes) result) (λ error. Writes old new (refused_bytes error) result)
