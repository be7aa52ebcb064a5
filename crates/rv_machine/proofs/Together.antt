-- The bodies of several units, one unit behind another.
use Rattle.std.proofs.Common.{◌≡◌, ap, sym, ◌∙◌, arith, ℕ, suc, ◌+◌, ◌<◌, List, [], ◌∷◌, ◌++◌, length, map, take, get_or}
use Rattle.std.proofs.Math.Seq.{take-suc}
use Rattle.std.proofs.lemmas.List.{map-append}
use Rattle.rv_code.specs.Bodies.{UnitBodies}
use Rattle.rv_code.specs.BodyView.{maybe_body_view}
use Rattle.rv_exec.proofs.Units.{all_more}
use Rattle.rv_exec.specs.Bodies.{all_of, with_unit, shared_view, held}
use Rattle.rv_exec.specs.declared.bodies.SharedUnit.{SharedUnit}

more : (us : List SharedUnit) (i : ℕ) (u : SharedUnit) → i < length us → u ≡ get_or us i u
    → all_of (map shared_view (take (i + 1) us)) ≡ with_unit (shared_view u) (all_of (map shared_view (take i us)))
more us i u lt at =
    let e : i + 1 ≡ suc i = omega arith in
    let taken : take (i + 1) us ≡ take i us ++ u ∷ [] = ap (λ n. take n us) e ∙ (take-suc us i u lt ∙ ap (λ z. take i us ++ z ∷ []) (sym at)) in
    ap (λ (l : List SharedUnit). all_of (map shared_view l)) taken
    ∙ (ap all_of (map-append shared_view (take i us) (u ∷ [])) ∙ all_more (map shared_view (take i us)) (shared_view u))

pub objects_more : (us : List SharedUnit) (i : ℕ) (u : SharedUnit) → i < length us → u ≡ get_or us i u
    → (all_of (map shared_view (take (i + 1) us))).objects ≡ (all_of (map shared_view (take i us))).objects ++ (shared_view u).objects
objects_more us i u lt at = ap (λ (b : UnitBodies). b.objects) (more us i u lt at)

pub tasks_more : (us : List SharedUnit) (i : ℕ) (u : SharedUnit) → i < length us → u ≡ get_or us i u
    → (all_of (map shared_view (take (i + 1) us))).tasks ≡ (all_of (map shared_view (take i us))).tasks ++ map maybe_body_view (held u).tasks.items
tasks_more us i u lt at = ap (λ (b : UnitBodies). b.tasks) (more us i u lt at)
