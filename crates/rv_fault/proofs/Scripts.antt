-- Bytes that are a script, and bytes that are none.
use Rattle.std.proofs.Common.{◌≡◌, ℕ, ◌<◌, ◌≤◌, List, [], Some, None, Option, Err, Result, length, take, refl, sym, ap, ◌∙◌, subst, arith, min, length-take}
use Rattle.std.specs.Prelude.{IfSome}
use Rattle.std.proofs.lemmas.List.{take_all}
use Rattle.rv_script.specs.Whole.{IsScript, IsRefused}
use Rattle.rv_script.specs.declared.read.TextError.{TextError}
use Rattle.rv_script.specs.declared.read.TextError.TheVariants.{TooLong, NotText}
use Rattle.rv_script.proofs.Wrote.{keeps_nothing}
use Rattle.rv_fault.specs.declared.failure.Failure.{Failure}
use Rattle.rv_fault.specs.declared.failure.Failure.TheVariants.{Refused}
use Rattle.rv_fault.specs.Faults.{fault_of}
use Rattle.rv_fault.specs.Written.{Outcome, OverBytes, Writes, WritesScript, refused_bytes}

pub not_both : (bytes : List ℕ) (error : TextError) → IsScript bytes → IsRefused bytes error → ⊥
not_both bytes TooLong script refused = let short = script.short in absurd (omega arith)
not_both bytes NotText script refused = refused.1 script.text

-- it is too long where more was asked for than a script may have
pub still_long : (bytes script : List ℕ) → bytes ≡ take 16777217 script → 16777216 < length script → 16777216 < length bytes
still_long bytes script e long =
    let same : length bytes ≡ min 16777217 (length script) = ap length e ∙ length-take 16777217 script in
    omega arith

pub refused_read : (bytes script : List ℕ) (error : TextError) → bytes ≡ take 16777217 script → IsRefused script error → IsRefused bytes error
refused_read bytes script TooLong e refused = still_long bytes script e refused
refused_read bytes script NotText e refused =
    subst (λ (l : List ℕ). IsRefused l NotText) (sym (e ∙ take_all 16777217 script (omega (arith, refused.0)))) refused

-- what is said of what was read is said of all that the reader had
pub over_read : (known : Option (List ℕ)) (Said : List ℕ → Type 0) (Of : TextError → Type 0) (bytes : List ℕ) → IfSome known (λ input. bytes ≡ take 16777217 input) → OverBytes bytes (Said bytes) Of → IfSome known (λ script. OverBytes script (Said script) Of)
over_read None Said Of bytes e said = tt
over_read (Some script) Said Of bytes e said =
    let whole = λ (short : length script ≤ 16777216). e ∙ take_all 16777217 script (omega arith) in
    record {
      text = λ is.
          let same = whole is.short in
          subst Said same (said.text (subst IsScript (sym same) is));
      refused = λ error refused. said.refused error (refused_read bytes script error e refused);
    }

pub script_read : (old new known : Option (List ℕ)) (outcome : List ℕ → Outcome) (bytes : List ℕ) (r : Result (Unit {0}) Failure) → IfSome known (λ input. bytes ≡ take 16777217 input) → WritesScript old new outcome bytes r
    → IfSome known (λ script. WritesScript old new outcome script r)
script_read old new known outcome bytes r = over_read known (λ script. Writes old new (outcome script) r) (λ error. Writes old new (refused_bytes error) r) bytes

-- bytes are refused for one reason
pub same_reason : (bytes : List ℕ) (error told : TextError) → IsRefused bytes told → IsRefused bytes error → error ≡ told
same_reason bytes TooLong TooLong x y = refl
same_reason bytes NotText NotText x y = refl
same_reason bytes TooLong NotText x y = let few = x.0 in absurd (omega (arith, y))
same_reason bytes NotText TooLong x y = let few = y.0 in absurd (omega (arith, x))

-- bytes that are a script
pub over_script : (Said : List ℕ → Type 0) (Of : TextError → Type 0) (bytes text : List ℕ) → (text ≡ bytes) × IsScript bytes → Said text → OverBytes bytes (Said bytes) Of
over_script Said Of bytes text is said = record {
  text = λ _. subst Said is.0 said;
  refused = λ error refused. absurd (not_both bytes error is.1 refused);
}

pub script_written : (old new : Option (List ℕ)) (outcome : List ℕ → Outcome) (bytes text : List ℕ) (r : Result (Unit {0}) Failure) → (text ≡ bytes) × IsScript bytes → Writes old new (outcome text) r → WritesScript old new outcome bytes r
script_written old new outcome bytes text r = over_script (λ script. Writes old new (outcome script) r) (λ error. Writes old new (refused_bytes error) r) bytes text

-- bytes that are none
pub over_refused : (Said : Type 0) (Of : TextError → Type 0) (bytes : List ℕ) (told : TextError) → IsRefused bytes told → Of told → OverBytes bytes Said Of
over_refused Said Of bytes told refused of = record {
  text = λ is. absurd (not_both bytes told is refused);
  refused = λ error it. subst Of (sym (same_reason bytes error told refused it)) of;
}

pub script_refused : (old : Option (List ℕ)) (outcome : List ℕ → Outcome) (bytes : List ℕ) (told : TextError) → IsRefused bytes told → WritesScript old old outcome bytes (Err (Refused (fault_of told)))
script_refused old outcome bytes told refused =
    over_refused (Writes old old (outcome bytes) (Err (Refused (fault_of told)))) (λ error. Writes old old (refused_bytes error) (Err (Refused (fault_of told)))) bytes told refused
    (record { text = []; is = (refl, refl); written = keeps_nothing old })
