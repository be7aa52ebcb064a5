-- What a review says of a journal (own).
use Rattle.std.specs.Prelude.{◌⊎◌, ℕ, Bool, true, false, List, IfSome, Some, Result, Ok, Err}
use Rattle.std.specs.Io.KnownBytes.{Appends}
use Rattle.rv_shape.specs.Shape.{Shape}
use Rattle.rv_history.specs.declared.limits.Limits.{Limits}
use Rattle.rv_history.specs.History.{History}
use Rattle.rv_audit.specs.Torn.{IsJournalBut}
use Rattle.rv_audit.specs.declared.verdict.Verdict.{Verdict}
use Rattle.rv_audit.specs.declared.verdict.Verdict.TheVariants.{Legal}
use Rattle.rv_script.specs.Prefixes.{WritesPrefix}
use Rattle.rv_script.specs.UnitTexts.{without_returns}
use Rattle.rv_fault.specs.Written.{Known}
use Rattle.rv_fault.specs.declared.failure.Failure.{Failure}
use Rattle.rv_fault.specs.declared.failure.Failure.TheVariants.{Refused, Memory, Io}
use Rattle.rv_verdict.specs.Audits.{FileBreaksOff, Saying, SaysOfBytes}
use Rattle.rv_verdict.specs.declared.judging.Audited.{Audited}

-- whether a verdict is that of a legal journal
abbrev pub is_legal : Verdict → Bool
is_legal (Legal entries) = true
is_legal verdict = false

-- what bytes hold, where they are known, is but for so many at the end the journal of a history
abbrev pub IsJournalOf : Known → Bool → Limits → List Shape → ℕ → History → Type 0
IsJournalOf journal takes_torn limits units torn h = IfSome journal (λ bytes. IsJournalBut limits units takes_torn bytes h torn)

-- where the journal is legal, this is written of its history, else what an audit says of it
abbrev pub SaysIf : (History → List ℕ) → Known → Bool → Known → Known → Limits → List Shape → Audited → Bool → Type 0
SaysIf text_of journal takes_torn old new limits units told true =
    (h : History) × IsJournalOf journal takes_torn limits units told.torn h × Appends old new (text_of h)
SaysIf text_of journal takes_torn old new limits units told false = SaysOfBytes journal takes_torn old new limits units (Ok told)

-- a prefix of what is said of a legal journal is written
abbrev pub BreaksOff : (History → List ℕ) → Known → Bool → Known → Known → Limits → List Shape → Type 0
BreaksOff text_of journal takes_torn old new limits units =
    (h : History) × (torn : ℕ) × IsJournalOf journal takes_torn limits units torn h × WritesPrefix old new (text_of h)

-- nothing is written where memory, a read or a write failed, or a prefix of what is said
abbrev pub Fails : (History → List ℕ) → Known → Bool → Known → Known → Limits → List Shape → Type 0
Fails text_of journal takes_torn old new limits units =
    FileBreaksOff journal takes_torn old new limits units ⊎ BreaksOff text_of journal takes_torn old new limits units

-- what a review says of what a reader gives
abbrev pub Reviews : (History → List ℕ) → Known → Bool → Known → Known → Limits → List Shape → Result Audited Failure → Type 0
Reviews text_of journal takes_torn old new limits units (Ok told) = SaysIf text_of journal takes_torn old new limits units told told.is_legal
Reviews text_of journal takes_torn old new limits units (Err (Refused told)) = ⊥
Reviews text_of journal takes_torn old new limits units (Err Memory) = Fails text_of journal takes_torn old new limits units
Reviews text_of journal takes_torn old new limits units (Err (Io error)) = Fails text_of journal takes_torn old new limits units

-- so it is of the journal that a script brings, without each carriage return that stands before a line feed
abbrev pub ReviewsSection : (History → List ℕ) → Saying Audited
ReviewsSection text_of old new it = Reviews text_of (Some (without_returns it.journal)) false old new it.limits it.units

-- and of a file beside what a script brings
abbrev pub ReviewsFile : (History → List ℕ) → Known → Bool → Saying Audited
ReviewsFile text_of journal takes_torn old new it = Reviews text_of journal takes_torn old new it.limits it.units
