-- What is said of a script that is played, by how that ended.
use Rattle.std.proofs.Common.{◌≡◌, ℕ, pos, List, [], Some, Ok, Err, refl, inl, inr}
use Rattle.std.specs.Prelude.{Bool}
use Rattle.rv_script.proofs.Wrote.{nothing_yet}
use Rattle.rv_fault.specs.declared.failure.Failure.TheVariants.{Refused, Memory}
use Rattle.rv_fault.specs.declared.fault.ScriptFault.{ScriptFault}
use Rattle.rv_fault.specs.Written.{Ended, WritesScript}
use Rattle.rv_play.specs.Scripted.{outcome_of}
use Rattle.rv_c.specs.Calls.{SaysRun}
use Rattle.rv_c.specs.Endings.{Refuses, nothing, says}
use Rattle.rv_c.specs.Said.{Said}

-- what is written of a script, from nothing
abbrev Writes : Bool → List ℕ → List ℕ → Ended → Type 0
Writes all script text ended = WritesScript (Some []) (Some text) (outcome_of all) script ended

-- it was carried out
pub run_done : (all : Bool) (script text : List ℕ) (said : Said) → Writes all script text (Ok tt) → said ≡ says (pos 0) text [] → SaysRun all script said
run_done all script text said written e = (Ok tt, text, [], written, refl, e)

-- before a failure nothing may be written
nothing_written : (all : Bool) (script : List ℕ) → Writes all script [] (Err Memory)
nothing_written all script = record {
  text = λ is. record { text = []; begins = inl refl; written = nothing_yet (Some []) [] };
  refused = λ error is. record { text = []; begins = refl; written = nothing_yet (Some []) [] };
}

-- there was no memory
pub run_nothing : (all : Bool) (script : List ℕ) (said : Said) → said ≡ nothing → SaysRun all script said
run_nothing all script said e = (Err Memory, [], [], nothing_written all script, (refl, refl), e)

-- it was refused
pub run_refused : (all : Bool) (script text : List ℕ) (fault : ScriptFault) (said : Said) → Writes all script text (Err (Refused fault)) → Refuses fault text said
    → SaysRun all script said
run_refused all script text fault said written (inl (line, is, e)) = (Err (Refused fault), text, line, written, is, e)
run_refused all script text fault said written (inr e) = run_nothing all script said e
