-- What asks and goes on is the same, however its parts are put together (own).
use Rattle.std.specs.Prelude.{◌≡◌}
use Rattle.rv_exec.specs.Asking.{Asking, ended, and_then}

-- of three parts it is all the same which two are put together first
abbrev pub PartsAreAssociative : Type 0 → Type 0 → Type 0 → Type 0
PartsAreAssociative A B C =
    (x : Asking A) (go : A → Asking B) (more : B → Asking C)
    → and_then (and_then x go) more ≡ and_then x (λ a. and_then (go a) more)

-- a part behind the last that only ends adds nothing
abbrev pub EndsAddNothing : Type 0 → Type 0
EndsAddNothing A = (x : Asking A) → and_then x ended ≡ x
