-- Steps that are counted, and what stands against the first that something stands against.
use Rattle.std.proofs.Common.{◌≡◌, ℕ, ◌+◌, List, [], ◌∷◌, Some, None, Option, Result, Err, length, arith, sym, ap, ◌∙◌}
use Rattle.std.specs.List.{filter}
use Rattle.std.proofs.lemmas.List.{length-append}
use Rattle.std.proofs.lemmas.List.Elements.{filter-append}
use Rattle.rv_text.specs.Words.{words, is_some_word}
use Rattle.rv_shape.specs.Shape.{Shape}
use Rattle.rv_fault.specs.declared.failure.Failure.{Failure}
use Rattle.rv_fault.specs.declared.failure.Failure.TheVariants.{Refused, Memory, Io}
use Rattle.rv_fault.specs.declared.fault.What.{What}
use Rattle.rv_fault.specs.declared.fault.ScriptFault.{ScriptFault}
use Rattle.rv_check.specs.StepFaults.{CountsSteps, IsFound, line_fault, or_behind, steps_count, steps_fault}

-- nothing stands against the first line
pub fault_behind : (shapes : List Shape) (number : ℕ) (line : List ℕ) (rest after : List (List ℕ)) (whole : Option ScriptFault) → rest ≡ line ∷ after → whole ≡ steps_fault shapes number rest → line_fault shapes (words line) ≡ None → whole ≡ steps_fault shapes (number + 1) after
fault_behind shapes number line rest after whole e same none =
    same ∙ ap (λ (ls : List (List ℕ)). steps_fault shapes number ls) e ∙ ap (λ (o : Option What). or_behind number o (steps_fault shapes (number + 1) after)) none

-- this stands against it
pub fault_here : (shapes : List Shape) (number : ℕ) (line : List ℕ) (rest after : List (List ℕ)) (whole : Option ScriptFault) (told : ScriptFault) → rest ≡ line ∷ after → whole ≡ steps_fault shapes number rest → line_fault shapes (words line) ≡ Some told.what → told.line ≡ number
    → whole ≡ Some told
fault_here shapes number line rest after whole told e same found at =
    same ∙ ap (λ (ls : List (List ℕ)). steps_fault shapes number ls) e ∙ ap (λ (o : Option What). or_behind number o (steps_fault shapes (number + 1) after)) found
    ∙ ap (λ (n : ℕ). let o : Option ScriptFault = Some (record { line = n; what = told.what }) in o) (sym at)

-- the steps of a line, and of those behind it
pub count_behind : (count here : ℕ) (line : List ℕ) (rest after : List (List ℕ)) (whole : ℕ) → rest ≡ line ∷ after → here ≡ steps_count (line ∷ []) → whole ≡ count + steps_count rest → whole ≡ (count + here) + steps_count after
count_behind count here line rest after whole e is same =
    let parts : steps_count (line ∷ after) ≡ steps_count (line ∷ []) + steps_count after =
    ap (λ (ls : List (List ℕ)). length ls) (filter-append (λ (l : List ℕ). is_some_word (words l)) (line ∷ []) after)
    ∙ length-append (filter (λ (l : List ℕ). is_some_word (words l)) (line ∷ [])) (filter (λ (l : List ℕ). is_some_word (words l)) after) in
    let all : steps_count rest ≡ steps_count (line ∷ after) = ap steps_count e in
    omega (arith, same, all, parts, is)

-- a line of steps that isn't well formed, or a failure
pub counts_not : (shapes : List Shape) (number : ℕ) (line : List ℕ) (rest after : List (List ℕ)) (first : ℕ) (all : List (List ℕ)) (e : Failure) → rest ≡ line ∷ after → steps_fault shapes first all ≡ steps_fault shapes number rest
    → (let r : Result (Unit {0}) Failure = Err e in IsFound number (line_fault shapes (words line)) r) → let r : Result ℕ Failure = Err e in CountsSteps shapes first all r
counts_not shapes number line rest after first all (Refused told) is same h = fault_here shapes number line rest after (steps_fault shapes first all) told is same h.0 h.1
counts_not shapes number line rest after first all Memory is same h = tt
counts_not shapes number line rest after first all (Io error) is same h = absurd h
