-- What a review says, from the verdict and what was written.
use Rattle.std.proofs.Common.{◌≡◌, ℕ, List, Bool, true, false, Option, Result, Ok, Err, sym, subst, inl, inr}
use Rattle.std.specs.Io.KnownBytes.{Appends}
use Rattle.rv_shape.specs.Shape.{Shape}
use Rattle.rv_history.specs.declared.limits.Limits.{Limits}
use Rattle.rv_history.specs.History.{History}
use Rattle.rv_audit.specs.Lines.{Found, IfLegal, IsJournalFound}
use Rattle.rv_audit.specs.declared.verdict.Verdict.{Verdict}
use Rattle.rv_audit.specs.declared.verdict.Verdict.TheVariants.{Legal, Wrong, Unreadable, NoMemory}
use Rattle.rv_script.proofs.Wrote.{nothing_yet}
use Rattle.rv_fault.specs.Written.{Puts}
use Rattle.rv_fault.specs.declared.fault.ScriptFault.{ScriptFault}
use Rattle.rv_fault.specs.declared.failure.Failure.{Failure}
use Rattle.rv_fault.specs.declared.failure.Failure.TheVariants.{Refused, Memory, Io}
use Rattle.rv_verdict.specs.Audits.{SaysOfBytes}
use Rattle.rv_verdict.specs.Brought.{Brought}
use Rattle.rv_verdict.specs.Said.{Says}
use Rattle.rv_verdict.proofs.Telling.{file_broken, file_fails, file_said}
use Rattle.rv_review.specs.Reviews.{IsJournalOf, Reviews, ReviewsFile, ReviewsSection, is_legal}

-- a failure at what an audit says is one at what a review says
pub failed : (text_of : History → List ℕ) (journal : Option (List ℕ)) (takes_torn : Bool) (old new : Option (List ℕ)) (limits : Limits) (units : List Shape) (failure : Failure) → SaysOfBytes journal takes_torn old new limits units (Err failure) →
    Reviews text_of journal takes_torn old new limits units (Err failure)
failed text_of journal takes_torn old new limits units (Refused told) says = says
failed text_of journal takes_torn old new limits units Memory says = inl says
failed text_of journal takes_torn old new limits units (Io error) says = inl says

-- before anything was judged
pub fails_first : (text_of : History → List ℕ) (journal : Option (List ℕ)) (takes_torn : Bool) (old : Option (List ℕ)) (limits : Limits) (units : List Shape) (failure : Failure) → failure ≡ Memory → Reviews text_of journal takes_torn old old limits units (Err failure)
fails_first text_of journal takes_torn old limits units failure e =
    subst (λ (f : Failure). Reviews text_of journal takes_torn old old limits units (Err f)) (sym e)
    (failed text_of journal takes_torn old old limits units Memory (file_fails journal takes_torn old limits units Memory tt))

-- Legal journals

-- what is so of a legal journal
of_legal : {X : Type 0} (verdict : Verdict) → is_legal verdict ≡ true → IfLegal verdict X → X
of_legal (Legal entries) is x = x
of_legal (Wrong entry due) is x = absurd cc
of_legal (Unreadable line) is x = absurd cc
of_legal NoMemory is x = absurd cc

-- a failure at writing what is said
broken : (text_of : History → List ℕ) (journal : Option (List ℕ)) (takes_torn : Bool) (old new : Option (List ℕ)) (limits : Limits) (units : List Shape) (h : History) (torn : ℕ) (failure : Failure) → IsJournalOf journal takes_torn limits units torn h →
    (let r : Result (Unit {0}) Failure = Err failure in Puts old new (text_of h) r) → Reviews text_of journal takes_torn old new limits units (Err failure)
broken text_of journal takes_torn old new limits units h torn (Refused told) is puts = puts
broken text_of journal takes_torn old new limits units h torn Memory is puts = inr (h, torn, is, puts)
broken text_of journal takes_torn old new limits units h torn (Io error) is puts = inr (h, torn, is, puts)

pub legal_broken : (text_of : History → List ℕ) (Holds : History → Type 0) (journal : Option (List ℕ)) (takes_torn : Bool) (old new : Option (List ℕ)) (limits : Limits) (units : List Shape) (h : History) (verdict : Verdict) (torn : ℕ) (failure : Failure) → is_legal verdict ≡ true →
    IsJournalFound limits units takes_torn journal h torn verdict → IfLegal verdict (Holds h) → (Holds h → let r : Result (Unit {0}) Failure = Err failure in Puts old new (text_of h) r) → Reviews text_of journal takes_torn old new limits units (Err failure)
legal_broken text_of Holds journal takes_torn old new limits units h verdict torn failure is found holds puts =
    broken text_of journal takes_torn old new limits units h torn failure (of_legal verdict is found) (puts (of_legal verdict is holds))

pub legal_said : (text_of : History → List ℕ) (Holds : History → Type 0) (journal : Option (List ℕ)) (takes_torn : Bool) (old new : Option (List ℕ)) (limits : Limits) (units : List Shape) (h : History) (verdict : Verdict) (torn : ℕ) → is_legal verdict ≡ true →
    IsJournalFound limits units takes_torn journal h torn verdict → IfLegal verdict (Holds h) → (Holds h → Appends old new (text_of h)) → Reviews text_of journal takes_torn old new limits units (Ok (record { is_legal = true; torn = torn }))
legal_said text_of Holds journal takes_torn old new limits units h verdict torn is found holds said =
    (h, of_legal verdict is found, said (of_legal verdict is holds))

-- Others

pub other_said : (text_of : History → List ℕ) (journal : Option (List ℕ)) (takes_torn : Bool) (old new : Option (List ℕ)) (limits : Limits) (units shapes : List Shape) (verdict : Verdict) (torn : ℕ) (told : Bool) → is_legal verdict ≡ false →
    Found limits units takes_torn journal shapes (verdict, torn) → Says old new shapes verdict (Ok told) → Reviews text_of journal takes_torn old new limits units (Ok (record { is_legal = told; torn = torn }))
other_said text_of journal takes_torn old new limits units shapes (Legal entries) torn told is found says = absurd cc
other_said text_of journal takes_torn old new limits units shapes (Wrong entry due) torn told is found says =
    by_told told says.1 (file_said journal takes_torn old new limits units shapes (Wrong entry due) torn told found says)
  where
    by_told : (b : Bool) → b ≡ false → SaysOfBytes journal takes_torn old new limits units (Ok (record { is_legal = b; torn = torn })) → Reviews text_of journal takes_torn old new limits units (Ok (record { is_legal = b; torn = torn }))
    by_told true none said = absurd cc
    by_told false none said = said
other_said text_of journal takes_torn old new limits units shapes (Unreadable line) torn told is found says =
    by_told told says.1 (file_said journal takes_torn old new limits units shapes (Unreadable line) torn told found says)
  where
    by_told : (b : Bool) → b ≡ false → SaysOfBytes journal takes_torn old new limits units (Ok (record { is_legal = b; torn = torn })) → Reviews text_of journal takes_torn old new limits units (Ok (record { is_legal = b; torn = torn }))
    by_told true none said = absurd cc
    by_told false none said = said
other_said text_of journal takes_torn old new limits units shapes NoMemory torn told is found says = absurd says.1

pub other_broken : (text_of : History → List ℕ) (journal : Option (List ℕ)) (takes_torn : Bool) (old new : Option (List ℕ)) (limits : Limits) (units shapes : List Shape) (verdict : Verdict) (torn : ℕ) (failure : Failure) → Found limits units takes_torn journal shapes (verdict, torn) →
    (let r : Result Bool Failure = Err failure in Says old new shapes verdict r) → Reviews text_of journal takes_torn old new limits units (Err failure)
other_broken text_of journal takes_torn old new limits units shapes verdict torn failure found says =
    failed text_of journal takes_torn old new limits units failure (file_broken journal takes_torn old new limits units shapes verdict torn failure found says)

-- A text

-- there was no memory for it
pub unput : (old : Option (List ℕ)) (text : List ℕ) (failure : Failure) → failure ≡ Memory → let r : Result (Unit {0}) Failure = Err failure in Puts old old text r
unput old text failure e = subst (λ (f : Failure). let r : Result (Unit {0}) Failure = Err f in Puts old old text r) (sym e) (nothing_yet old text)

-- Scripts

pub never_section : (text_of : History → List ℕ) (old new : Option (List ℕ)) (it : Brought) (told : ScriptFault) → ReviewsSection text_of old new it (Err (Refused told)) → ⊥
never_section text_of old new it told says = says

pub never_file : (text_of : History → List ℕ) (journal : Option (List ℕ)) (takes_torn : Bool) (old new : Option (List ℕ)) (it : Brought) (told : ScriptFault) → ReviewsFile text_of journal takes_torn old new it (Err (Refused told)) → ⊥
never_file text_of journal takes_torn old new it told says = says
