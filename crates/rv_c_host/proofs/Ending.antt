-- The request that the end of a body is.
use Rattle.std.proofs.Common.{◌≡◌, ◌≤◌, ℕ, ℤ, Bool, true, nat_le, List, length, Option, None, Some, ap, sym, subst, ◌∙◌, arith}
use Rattle.std.specs.Prelude.{if◌then◌else◌, ◌&&◌, option_map}
use Rattle.rv_event.specs.declared.entry.Exit.{Exit}
use Rattle.rv_event.specs.declared.entry.Request.{Request}
use Rattle.rv_event.specs.declared.entry.Request.TheVariants.{Complete}
use Rattle.rv_kept.specs.declared.kept.Kept.{Kept}
use Rattle.rv_c_host.specs.Asked.{Asks, AsksIf, end_of, exit_of}
use Rattle.rv_c_host.specs.declared.told.Told.{Told}

ended : (scalars values : List ℤ) (number : ℕ) (exit : Exit) → nat_le (length scalars) 32 ≡ true → nat_le (length values) 4 ≡ true
    → exit_of number values ≡ Some exit → end_of scalars number values ≡ Some (Complete scalars exit)
ended scalars values number exit few short is =
    ap (λ (x : Bool). if x && nat_le (length values) 4 then option_map (Complete scalars) (exit_of number values) else None) few
    ∙ (ap (λ (x : Bool). if x then option_map (Complete scalars) (exit_of number values) else None) short
    ∙ ap (λ (x : Option Exit). option_map (Complete scalars) x) is)

ends : (scalars values : List ℤ) (number : ℕ) (exit : Exit) → length scalars ≤ 32 → length values ≤ 4
    → exit_of number values ≡ Some exit → end_of scalars number values ≡ Some (Complete scalars exit)
ends scalars values number exit few short is = ended scalars values number exit (search arith) (search arith) is

-- what was asked is that end
pub asked : (actor : ℕ) (scalars values : List ℤ) (number : ℕ) (exit : Exit) (request : Request) (old new : Option Kept) (before after : Told) (status : ℤ)
    → length scalars ≤ 32 → length values ≤ 4 → exit_of number values ≡ Some exit → request ≡ Complete scalars exit
    → Asks actor request old new before after status → AsksIf actor (end_of scalars number values) old new before after status
asked actor scalars values number exit request old new before after status few short is same asks =
    subst (λ (r : Option Request). AsksIf actor r old new before after status) (sym (ends scalars values number exit few short is))
    (subst (λ (r : Request). Asks actor r old new before after status) same asks)
