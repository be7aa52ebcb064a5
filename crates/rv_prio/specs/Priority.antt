-- Active priorities (D.3).
use Rattle.std.specs.Prelude.{ℕ, List, [], ◌∷◌, map, max}
use Rattle.rv_prio.specs.declared.held.Held.{Held}

-- the greatest of a number and those of a list (own)
abbrev pub greatest : ℕ → List ℕ → ℕ
greatest n [] = n
greatest n (m ∷ ms) = max m (greatest n ms)

-- the greatest of the base priority and the ceilings of what is held (D.3)
abbrev pub active_priority : ℕ → List Held → ℕ
active_priority base held = greatest base (map (λ h. h.ceiling) held)
