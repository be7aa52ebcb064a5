-- The longer of two histories with which one begins.
use Rattle.std.proofs.Common.{◌≡◌, ◌⊎◌, ℕ, ◌≤◌, nat_lt, Bool, true, false, if◌then◌else◌, List, [], ◌∷◌, ◌++◌, length, sym, refl, ap, ◌∙◌, inl, inr, arith, length-append, append-nil}
use Rattle.std.proofs.lemmas.Bool.Decides.{nat_tests}
use Rattle.rv_turn.specs.Histories.{mine, StartsWith, longer}
use Rattle.rv_turn.specs.Prefixes.{starts_self, mine-append}

abbrev first_or : {X : Type 0} → X → List X → X
first_or x [] = x
first_or x (y ∷ ys) = y

abbrev rest_of : {X : Type 0} → List X → List X
rest_of [] = []
rest_of (y ∷ ys) = ys

is_less : (n m : ℕ) → nat_lt n m ≡ true → n ≤ m
is_less n m e = grind (arith, nat_tests, e)

isnt_less : (n m : ℕ) → nat_lt n m ≡ false → m ≤ n
isnt_less n m e = grind (arith, nat_tests, e)

no_length : {X : Type 0} (xs : List X) → length xs ≡ 0 → xs ≡ []
no_length [] e = refl
no_length (x ∷ xs) e = absurd (omega (arith, e))

module _ {E : Type 0} where
  -- of two histories with which one begins, the shorter is a front of the other
  front : (xs ys r s : List E) → xs ++ r ≡ ys ++ s → length xs ≤ length ys → StartsWith ys xs
  front [] ys r s e le = (ys, refl)
  front (x ∷ xs) [] r s e le = absurd (omega (arith, le))
  front (x ∷ xs) (y ∷ ys) r s e le =
      let t = front xs ys r s (ap rest_of e) (omega (arith, le)) in
      let same : y ≡ x = sym (ap (first_or x) e) in (t.0, λ i. same i ∷ t.1 i)

  pub longer_within : (log one two : List E) → StartsWith log one → StartsWith log two → StartsWith log (longer one two)
  longer_within log one two p q = by_test (nat_lt (length one) (length two)) where
    by_test : (b : Bool) → StartsWith log (if b then two else one)
    by_test true = q
    by_test false = p

  -- it begins with both
  pub longer_first : (log one two : List E) → StartsWith log one → StartsWith log two → StartsWith (longer one two) one
  longer_first log one two p q = by_test (nat_lt (length one) (length two)) refl where
    by_test : (b : Bool) → nat_lt (length one) (length two) ≡ b → StartsWith (if b then two else one) one
    by_test true e = front one two p.0 q.0 (sym p.1 ∙ q.1) (is_less (length one) (length two) e)
    by_test false e = starts_self one

  pub longer_second : (log one two : List E) → StartsWith log one → StartsWith log two → StartsWith (longer one two) two
  longer_second log one two p q = by_test (nat_lt (length one) (length two)) refl where
    by_test : (b : Bool) → nat_lt (length one) (length two) ≡ b → StartsWith (if b then two else one) two
    by_test true e = starts_self two
    by_test false e = front two one q.0 p.0 (sym q.1 ∙ p.1) (isnt_less (length one) (length two) e)

  -- and is one of them
  pub longer_is : (one two : List E) → (longer one two ≡ one) ⊎ (longer one two ≡ two)
  longer_is one two = by_test (nat_lt (length one) (length two)) where
    by_test : (b : Bool) → ((if b then two else one) ≡ one) ⊎ ((if b then two else one) ≡ two)
    by_test true = inr refl
    by_test false = inl refl

  -- an actor's entries between two histories that have the same of its entries
  pub mine_between : (by : E → ℕ) (a : ℕ) (seen mid log own : List E) → mine by a seen ≡ own → (p : StartsWith mid seen) → (q : StartsWith log mid) → mine by a log ≡ own → mine by a mid ≡ own
  mine_between by a seen mid log own first p q last =
      let more : mine by a mid ≡ own ++ mine by a p.0 = ap (mine by a) p.1 ∙ (mine-append by a seen p.0 ∙ ap (λ (l : List E). l ++ mine by a p.0) first) in
      let all : own ≡ (own ++ mine by a p.0) ++ mine by a q.0 = sym last ∙ (ap (mine by a) q.1 ∙ (mine-append by a mid q.0 ∙ ap (λ (l : List E). l ++ mine by a q.0) more)) in
      let none : mine by a p.0 ≡ [] = no_length (mine by a p.0) (omega (arith, ap length all, length-append (own ++ mine by a p.0) (mine by a q.0), length-append own (mine by a p.0))) in
      more ∙ (ap (λ (l : List E). own ++ l) none ∙ append-nil own)
