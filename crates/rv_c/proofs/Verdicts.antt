-- What is said of the journal of a script, by how its audit ended.
use Rattle.std.proofs.Common.{◌≡◌, ℕ, pos, true, false, List, [], Some, Ok, Err, Result, refl, inl, inr}
use Rattle.std.specs.Prelude.{Bool}
use Rattle.rv_fault.specs.declared.failure.Failure.{Failure}
use Rattle.rv_fault.specs.declared.failure.Failure.TheVariants.{Refused, Memory}
use Rattle.rv_fault.specs.declared.fault.ScriptFault.{ScriptFault}
use Rattle.rv_verdict.specs.Audits.{AuditsScript, SaysOfSection}
use Rattle.rv_c.specs.Calls.{SaysVerdict}
use Rattle.rv_c.specs.Endings.{Refuses, nothing, says}
use Rattle.rv_c.specs.Said.{Said}

-- what is said of the journal of a script, from nothing
abbrev Judges : List ℕ → List ℕ → Result Bool Failure → Type 0
Judges script text ended = AuditsScript true SaysOfSection (Some []) (Some text) script ended

-- it is legal
pub verdict_legal : (script text : List ℕ) (said : Said) → Judges script text (Ok true) → said ≡ says (pos 0) text [] → SaysVerdict script said
verdict_legal script text said judged e = (Ok true, text, [], judged, refl, e)

-- it isn't
pub verdict_other : (script text : List ℕ) (said : Said) → Judges script text (Ok false) → said ≡ says (pos 1) text [] → SaysVerdict script said
verdict_other script text said judged e = (Ok false, text, [], judged, refl, e)

-- there was no memory
pub verdict_nothing : (script : List ℕ) (said : Said) → said ≡ nothing → SaysVerdict script said
verdict_nothing script said e = (Err Memory, [], [], record { text = λ is. inl refl; refused = λ error is. refl }, (refl, refl), e)

-- the script was refused
pub verdict_refused : (script text : List ℕ) (fault : ScriptFault) (said : Said) → Judges script text (Err (Refused fault)) → Refuses fault text said → SaysVerdict script said
verdict_refused script text fault said judged (inl (line, is, e)) = (Err (Refused fault), text, line, judged, is, e)
verdict_refused script text fault said judged (inr e) = verdict_nothing script said e
