-- The mode of an actor, from whether it holds anything.
use Rattle.std.proofs.Common.{◌≡◌, refl, List, [], ◌∷◌, length, Some, None, Option, true, arith, ap, sym}
use Rattle.std.specs.Prelude.{nat_lt}
use Rattle.std.proofs.lemmas.Bool.Decides.{nat_tests}
use Rattle.rv_event.specs.Past.{holds_some, mode_by, mode_with, or_settling}
use Rattle.rv_event.specs.declared.entry.Body.{Body}
use Rattle.rv_event.specs.declared.entry.Mode.{Mode}
use Rattle.rv_event.specs.declared.entry.Mode.TheVariants as Modes
use Rattle.rv_event.specs.declared.entry.Stance.{Stance}

some_held : (held : List Body) → nat_lt 0 (length held) ≡ holds_some held
some_held [] = refl
some_held (b ∷ bs) = grind (arith, nat_tests)

pub mode_is : (held : List Body) (s : Stance) → mode_with (nat_lt 0 (length held)) s ≡ mode_by held s
mode_is held s = ap (λ t. mode_with t s) (some_held held)

-- the mode of one with nothing to settle
pub mode_settled : (o : Option Body) (m : Mode) → o ≡ None → m ≡ or_settling o m
mode_settled o m none = sym (ap (λ q. or_settling q m) none)

pub mode_settling : (o : Option Body) (b : Body) (m : Mode) → o ≡ Some b → Modes.Settling ≡ or_settling o m
mode_settling o b m some = sym (ap (λ q. or_settling q m) some)
