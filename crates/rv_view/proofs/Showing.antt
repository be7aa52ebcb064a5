-- What is shown, a number at a time.
use Rattle.std.proofs.Common.{◌≡◌, ◌∙◌, Bool, true, false, ℕ, ◌+◌, List, [], ◌∷◌, ◌++◌, Option, Some, None, map, sym}
use Rattle.std.specs.Prelude.{if◌then◌else◌}
use Rattle.std.specs.List.{range_with_len}
use Rattle.rv_event.specs.declared.entry.Mode.{Mode}
use Rattle.std.proofs.lemmas.List.FromFn.{map-range_with_len_more}

-- a number more
pub pushed_more : {X : Type 0} (f : ℕ → X) (a n j : ℕ) (xs ys : List X) (x : X) → a + n ≡ j → ys ≡ xs ++ x ∷ [] → xs ≡ map f (range_with_len a n) → x ≡ f j
    → ys ≡ map f (range_with_len a (n + 1))
pushed_more f a n j xs ys x at pushed is one =
    pushed ∙ (λ k. is k ++ one k ∷ []) ∙ sym (map-range_with_len_more f a n j at)

-- a mode that is told is that of an actor that there is
pub told_mode : (known : Bool) (result : Option Mode) (m due : Mode) → result ≡ Some m → result ≡ (if known then Some due else None) → m ≡ due
told_mode true result m due is told = cc (is, told)
told_mode false result m due is told = absurd (cc (is, told))
