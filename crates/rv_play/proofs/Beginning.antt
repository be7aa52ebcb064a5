-- A script from its beginning.
use Rattle.std.proofs.Common.{◌≡◌, ℕ, List, [], Some, None, Option, Ok, Err, Result, true, false, refl, sym, subst, inl, inr}
use Rattle.std.specs.Prelude.{Bool, IfSome}
use Rattle.rv_script.specs.Openings.{OpenedText, opened}
use Rattle.rv_script.proofs.Wrote.{keeps_nothing, nothing_yet}
use Rattle.rv_fault.specs.declared.failure.Failure.{Failure}
use Rattle.rv_fault.specs.declared.failure.Failure.TheVariants.{Refused, Memory, Io}
use Rattle.rv_fault.specs.declared.fault.What.TheVariants as Whats
use Rattle.rv_fault.specs.declared.fault.ScriptFault.{ScriptFault}
use Rattle.rv_script.specs.declared.read.ReadError.{ReadError}
use Rattle.rv_script.specs.declared.read.ReadError.TheVariants as Reads
use Rattle.rv_script.specs.declared.read.TextError.{TextError}
use Rattle.rv_fault.specs.Faults.{of_read}
use Rattle.rv_fault.specs.Written.{WritesAll, WritesSome, Writes, WritesScript, refused_bytes}
use Rattle.rv_play.specs.Acts.{acts_from}
use Rattle.rv_play.specs.declared.player.Limits.{Limits}
use Rattle.rv_play.specs.Stages.{Stage, start}
use Rattle.rv_play.specs.Scripted.{Run, Playing, default_limits, PlaysOpened, PlaysScript, BeginsOpened, IsLimits, ReadsLimits, told_text, text_of, outcome_of}
use Rattle.rv_play.specs.Carried.{Whole, Part, Carries}
use Rattle.rv_play.proofs.Named.{text_is}
use Rattle.rv_play.proofs.Scripting.{queues_fit}

abbrev beginning : Bool → Limits → Playing
beginning all limits = record { all = all; stage = start limits }

-- where nothing is written, something refused the script before its first act
pub refused_first : (all : Bool) (a : Option (List ℕ)) (script : List ℕ) (fault : ScriptFault) → PlaysScript script (record { told = []; fault = Some fault; last = start default_limits })
    → (let r : Result (Unit {0}) Failure = Err (Refused fault) in Writes a a (outcome_of all script) r)
refused_first all a script fault plays = record {
  text = [];
  is = (record { told = []; fault = Some fault; last = start default_limits }, plays, refl, nothing all);
  written = keeps_nothing a;
}
  where
    nothing : (all : Bool) → [] ≡ text_of all (record { told = []; fault = Some fault; last = start default_limits })
    nothing true = refl
    nothing false = refl

-- text before the first section
pub front_refused : (all : Bool) (a : Option (List ℕ)) (script : List ℕ) (line : ℕ) → opened script ≡ Err line
    → (let r : Result (Unit {0}) Failure = Err (Refused (record { line = line; what = Whats.BadSection })) in Writes a a (outcome_of all script) r)
front_refused all a script line e =
    let fault : ScriptFault = record { line = line; what = Whats.BadSection } in
    let run : Run = record { told = []; fault = Some fault; last = start default_limits } in
    refused_first all a script fault (subst (λ (o : Result OpenedText ℕ). PlaysOpened o run) (sym e) refl)

-- settings that are refused
pub settings_refused : (all : Bool) (a : Option (List ℕ)) (script : List ℕ) (whole : OpenedText) (fault : ScriptFault) → opened script ≡ Ok whole → IsLimits whole.settings (Err fault)
    → (let r : Result (Unit {0}) Failure = Err (Refused fault) in Writes a a (outcome_of all script) r)
settings_refused all a script whole fault e is =
    let run : Run = record { told = []; fault = Some fault; last = start default_limits } in
    refused_first all a script fault (subst (λ (o : Result OpenedText ℕ). PlaysOpened o run) (sym e) (Err fault, is, refl))

-- nothing is written of any script
pub nothing_some : (all : Bool) (a : Option (List ℕ)) (script : List ℕ) → WritesSome a a (outcome_of all script).Begins
nothing_some all a script = record { text = []; begins = inl refl; written = nothing_yet a [] }

pub memory_first : (all : Bool) (a : Option (List ℕ)) (script : List ℕ) → (let r : Result (Unit {0}) Failure = Err Memory in Writes a a (outcome_of all script) r)
memory_first all a script = nothing_some all a script

all_is : (all : Bool) (a b : Option (List ℕ)) (script : List ℕ) (whole : OpenedText) (limits : Limits) (fault : Option ScriptFault) (last : Stage) → opened script ≡ Ok whole → IsLimits whole.settings (Ok limits)
    → Whole a b (beginning all limits) (acts_from whole.sections) fault last → WritesAll a b (outcome_of all script).Is fault
all_is all a b script whole limits fault last e is carried =
    let run : Run = record { told = carried.told; fault = fault; last = last } in
    let same = text_is all limits (acts_from whole.sections) carried.told fault last (queues_fit whole.settings limits is) carried.plays in
    record {
      text = told_text all carried.told;
      is = (run, subst (λ (o : Result OpenedText ℕ). PlaysOpened o run) (sym e) (Ok limits, is, carried.plays), refl, sym same);
      written = carried.written;
    }

some_is : (all : Bool) (a b : Option (List ℕ)) (script : List ℕ) (whole : OpenedText) (limits : Limits) → opened script ≡ Ok whole → IsLimits whole.settings (Ok limits)
    → Part a b (beginning all limits) (acts_from whole.sections) → WritesSome a b (outcome_of all script).Begins
some_is all a b script whole limits e is part =
    let run : Run = record { told = part.told; fault = None; last = part.last } in
    let same = text_is all limits part.done part.told None part.last (queues_fit whole.settings limits is) part.plays in
    record {
      text = told_text all part.told;
      begins = inr (run, subst (λ (o : Result OpenedText ℕ). BeginsOpened o run) (sym e) (limits, is, part.done, part.rest, part.split, part.plays), sym same);
      written = part.written;
    }

-- the acts of a script were carried out from the beginning
pub carried_writes : (all : Bool) (a b : Option (List ℕ)) (script : List ℕ) (whole : OpenedText) (limits : Limits) (p q : Playing) (r : Result (Unit {0}) Failure) → opened script ≡ Ok whole → IsLimits whole.settings (Ok limits)
    → p ≡ record { all = all; stage = start limits } → Carries a b p q (acts_from whole.sections) r → Writes a b (outcome_of all script) r
carried_writes all a b script whole limits p q r e is from carries = by_result r (subst (λ (o : Playing). Carries a b o q (acts_from whole.sections) r) from carries)
  where
    by_result : (r : Result (Unit {0}) Failure) → Carries a b (beginning all limits) q (acts_from whole.sections) r → Writes a b (outcome_of all script) r
    by_result (Ok x) c = all_is all a b script whole limits None q.stage e is c.0
    by_result (Err (Refused fault)) c = all_is all a b script whole limits (Some fault) c.0 e is c.1
    by_result (Err Memory) c = some_is all a b script whole limits e is c
    by_result (Err (Io error)) c = some_is all a b script whole limits e is c

-- settings that gave no limits
pub unread : (all : Bool) (a : Option (List ℕ)) (script : List ℕ) (whole : OpenedText) (failure : Failure) → opened script ≡ Ok whole → (let r : Result Limits Failure = Err failure in ReadsLimits whole.settings r)
    → (let r : Result (Unit {0}) Failure = Err failure in Writes a a (outcome_of all script) r)
unread all a script whole (Refused fault) e is = settings_refused all a script whole fault e is
unread all a script whole Memory e is = memory_first all a script
unread all a script whole (Io error) e is = absurd is

-- a read that failed
none_some : (a : Option (List ℕ)) (error : TextError) → WritesSome a a (refused_bytes error).Begins
none_some a error = record { text = []; begins = refl; written = nothing_yet a [] }

memory_unread : (all : Bool) (a known : Option (List ℕ)) → IfSome known (λ script. let r : Result (Unit {0}) Failure = Err Memory in WritesScript a a (outcome_of all) script r)
memory_unread all a None = tt
memory_unread all a (Some script) = record { text = λ is. nothing_some all a script; refused = λ error refused. none_some a error }

failed_unread : (all : Bool) (a known : Option (List ℕ)) (e : _) → IfSome known (λ script. let r : Result (Unit {0}) Failure = Err (Io e) in WritesScript a a (outcome_of all) script r)
failed_unread all a None e = tt
failed_unread all a (Some script) e = record { text = λ is. nothing_some all a script; refused = λ error refused. none_some a error }

pub read_failed : (all : Bool) (a known : Option (List ℕ)) (error : ReadError) → IfSome known (λ script. let r : Result (Unit {0}) Failure = Err (of_read error) in WritesScript a a (outcome_of all) script r)
read_failed all a known Reads.Memory = memory_unread all a known
read_failed all a known (Reads.Io e) = failed_unread all a known e
