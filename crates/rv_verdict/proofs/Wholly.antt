-- What is said of a script, from what is said of what it brings.
use Rattle.std.proofs.Common.{◌≡◌, ℕ, List, Some, None, Option, Ok, Err, Result, take, refl, inl, inr}
use Rattle.std.specs.Prelude.{Bool, IfSome}
use Rattle.rv_history.specs.declared.limits.Limits.{Limits}
use Rattle.rv_script.specs.Whole.{IsScript, IsRefused}
use Rattle.rv_script.specs.declared.read.ReadError.{ReadError}
use Rattle.rv_script.specs.declared.read.ReadError.TheVariants as Reads
use Rattle.rv_script.specs.declared.read.TextError.{TextError}
use Rattle.rv_script.proofs.Wrote.{keeps_nothing}
use Rattle.rv_fault.specs.declared.failure.Failure.{Failure}
use Rattle.rv_fault.specs.declared.failure.Failure.TheVariants.{Refused, Memory, Io}
use Rattle.rv_fault.specs.declared.fault.ScriptFault.{ScriptFault}
use Rattle.rv_fault.specs.Faults.{fault_of, of_read}
use Rattle.rv_fault.proofs.Scripts.{over_read, over_refused, over_script}
use Rattle.rv_verdict.specs.Given.{GivenText}
use Rattle.rv_verdict.specs.Brought.{Brings, Brought, GivesScript}
use Rattle.rv_verdict.specs.Audits.{AuditsScript, AuditsText, RefusesBytes, Saying, Under, bounded}

-- The text of a script

-- what it brings was refused
pub nothing_brought : {A : Type 0} (has_journal : Bool) (Says : Saying A) (old : Option (List ℕ)) (script : List ℕ) (failure : Failure) → (let r : Result (Limits × GivenText) Failure = Err failure in GivesScript has_journal script r) →
    AuditsText has_journal Says old old script (Err failure)
nothing_brought has_journal Says old script (Refused told) h = (h, keeps_nothing old)
nothing_brought has_journal Says old script Memory h = inl (keeps_nothing old)
nothing_brought has_journal Says old script (Io error) h = inl (keeps_nothing old)

-- of a saying that refuses nothing
abbrev NeverRefuses : {A : Type 0} → Saying A → Type 0
NeverRefuses {A} Says = (old new : Option (List ℕ)) (it : Brought) (told : ScriptFault) → Says old new it (Err (Refused told)) → ⊥

-- one that refuses nothing refuses nothing within other limits
pub never_under : {A : Type 0} (allowance : Option ℕ) (Says : Saying A) → NeverRefuses Says → NeverRefuses (Under allowance Says)
never_under allowance Says never old new it told says = never old new (record it { limits = bounded allowance it.limits }) told says

pub said_of : {A : Type 0} (has_journal : Bool) (Says : Saying A) (old new : Option (List ℕ)) (script : List ℕ) (it : Brought) (r : Result A Failure) → NeverRefuses Says → Brings has_journal script (Ok it) → Says old new it r →
    AuditsText has_journal Says old new script r
said_of has_journal Says old new script it (Ok found) never brings says = (it, brings, says)
said_of has_journal Says old new script it (Err (Refused told)) never brings says = absurd (never old new it told says)
said_of has_journal Says old new script it (Err Memory) never brings says = inr (it, brings, says)
said_of has_journal Says old new script it (Err (Io error)) never brings says = inr (it, brings, says)

-- What a reader had

-- it gave bytes that are a script
pub script_audited : {A : Type 0} (has_journal : Bool) (Says : List ℕ → Saying A) (old new known : Option (List ℕ)) (bytes text : List ℕ) (r : Result A Failure) → IfSome known (λ input. bytes ≡ take 16777217 input) → (text ≡ bytes) × IsScript bytes →
    AuditsText has_journal (Says text) old new text r → IfSome known (λ script. AuditsScript has_journal (Says script) old new script r)
script_audited has_journal Says old new known bytes text r read is said =
    let Said = λ (script : List ℕ). AuditsText has_journal (Says script) old new script r in
    over_read known Said (RefusesBytes old new r) bytes read (over_script Said (RefusesBytes old new r) bytes text is said)

-- it gave bytes that are none
pub bytes_refused : {A : Type 0} (has_journal : Bool) (Says : List ℕ → Saying A) (old known : Option (List ℕ)) (bytes : List ℕ) (told : TextError) → IfSome known (λ input. bytes ≡ take 16777217 input) → IsRefused bytes told →
    IfSome known (λ script. AuditsScript has_journal (Says script) old old script (Err (Refused (fault_of told))))
bytes_refused {A} has_journal Says old known bytes told read refused =
    let r : Result A Failure = Err (Refused (fault_of told)) in
    let Said = λ (script : List ℕ). AuditsText has_journal (Says script) old old script r in
    over_read known Said (RefusesBytes old old r) bytes read (over_refused (Said bytes) (RefusesBytes old old r) bytes told refused (refl, keeps_nothing old))

-- it gave none
pub none_read : {A : Type 0} (has_journal : Bool) (Says : List ℕ → Saying A) (old known : Option (List ℕ)) (e : ReadError) → IfSome known (λ script. AuditsScript has_journal (Says script) old old script (Err (of_read e)))
none_read has_journal Says old None e = tt
none_read has_journal Says old (Some script) Reads.Memory = record { text = λ is. inl (keeps_nothing old); refused = λ error refused. keeps_nothing old }
none_read has_journal Says old (Some script) (Reads.Io e) = record { text = λ is. inl (keeps_nothing old); refused = λ error refused. keeps_nothing old }
