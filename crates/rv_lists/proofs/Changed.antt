-- The list that a change of one line makes, if there is such a line.
use Rattle.std.proofs.Common.{◌≡◌, ℕ, ◌<◌, ◌≤◌, ⊎_elim, arith, ap, sym, Bool, true, false, List, [], ◌∷◌, ◌++◌, length, Some, None}
use Rattle.std.specs.Prelude.{◌⊎◌, nat_lt, if◌then◌else◌}
use Rattle.std.proofs.lemmas.Bool.Decides.{nat_tests}
use Rattle.rv_access.specs.Changes.{at_line}
use Rattle.rv_access.specs.Words.{Words}
use Rattle.rv_lists.specs.Kept.{with_list}

there : (number : ℕ) (lines made : List Words) → 0 < number → number ≤ length lines → at_line number lines made ≡ Some made
there number lines made some within =
    let counts : nat_lt 0 number ≡ true = grind (arith, nat_tests) in
    let fits : nat_lt (length lines) number ≡ false = grind (arith, nat_tests) in
    (λ i. if counts i then (if fits i then None else Some made) else None)

none_first : (number : ℕ) (lines made : List Words) → number ≡ 0 → at_line number lines made ≡ None
none_first number lines made zero =
    let no : nat_lt 0 number ≡ false = grind (arith, nat_tests) in
    ap (λ (b : Bool). if b then (if nat_lt (length lines) number then None else Some made) else None) no

none_past : (number : ℕ) (lines made : List Words) → length lines < number → at_line number lines made ≡ None
none_past number lines made past =
    let counts : nat_lt 0 number ≡ true = grind (arith, nat_tests) in
    let far : nat_lt (length lines) number ≡ true = grind (arith, nat_tests) in
    (λ i. if counts i then (if far i then None else Some made) else None)

pub line_there : (lists : List (List Words)) (lines made : List Words) (number : ℕ) → (0 < number) × (number ≤ length lines) →
    lists ++ made ∷ [] ≡ with_list lists (at_line number lines made)
line_there lists lines made number line = sym (ap (with_list lists) (there number lines made line.0 line.1))

pub line_missing : (lists : List (List Words)) (lines made : List Words) (number : ℕ) → (number ≡ 0) ⊎ (length lines < number) →
    lists ≡ with_list lists (at_line number lines made)
line_missing lists lines made number none = sym (ap (with_list lists) (⊎_elim (none_first number lines made) (none_past number lines made) none))
