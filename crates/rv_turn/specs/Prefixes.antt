-- Words on histories that crates above put together: what begins with what, and the entries of one actor. (own)
use Rattle.std.proofs.Common.{◌≡◌, ℕ, Bool, true, false, eqb, if◌then◌else◌, List, [], ◌∷◌, ◌++◌, refl, sym, ap, ◌∙◌, append_assoc, append-nil}
use Rattle.rv_turn.specs.Histories.{mine, StartsWith}

module _ {E : Type 0} where
  -- a history begins with itself (own)
  pub starts_self : (xs : List E) → StartsWith xs xs
  starts_self xs = ([], sym (append-nil xs))

  -- what begins with a history that begins with another begins with that (own)
  pub starts_both : (xs ys zs : List E) → StartsWith ys xs → StartsWith zs ys → StartsWith zs xs
  starts_both xs ys zs p q = (p.0 ++ q.0, q.1 ∙ (ap (λ (l : List E). l ++ q.0) p.1 ∙ append_assoc xs p.0 q.0))

  mine_if : (b : Bool) (e : E) (xs ys : List E) → (if b then e ∷ (xs ++ ys) else xs ++ ys) ≡ (if b then e ∷ xs else xs) ++ ys
  mine_if true e xs ys = refl
  mine_if false e xs ys = refl

  -- an actor's entries of two histories one after another (own)
  pub mine-append : (by : E → ℕ) (a : ℕ) (xs ys : List E) → mine by a (xs ++ ys) ≡ mine by a xs ++ mine by a ys
  mine-append by a [] ys = refl
  mine-append by a (x ∷ xs) ys =
      ap (λ (z : List E). if eqb (by x) a then x ∷ z else z) (mine-append by a xs ys) ∙ mine_if (eqb (by x) a) x (mine by a xs) (mine by a ys)
