-- One of the parts of a list passes where what it stands for does.
use Rattle.std.proofs.Common.{◌≡◌, refl, ap, ◌∙◌, ℕ, List, [], ◌∷◌, map}
use Rattle.std.specs.Prelude.{Bool, true, false, nat_lt, ◌||◌, ◌&&◌}
use Rattle.std.specs.List.{list_any}
use Rattle.rv_text.specs.Names.{is_same_name}
use Rattle.rv_tree.specs.Bodies.{Local, an_object, local_pragma, local_protected_unit, local_task}
use Rattle.rv_restrict.specs.Scope.{is_type, is_local_type, is_among_local_types}

pub any_viewed : {A B : Type 0} (test : B → Bool) (view : A → B) (list : List A) →
    list_any (λ a. test (view a)) list ≡ list_any test (map view list)
any_viewed test view [] = refl
any_viewed test view (a ∷ more) = ap (λ (b : Bool). test (view a) || b) (any_viewed test view more)

neither : (a b : Bool) → a || b ≡ false → (a ≡ false) × (b ≡ false)
neither true b h = absurd cc
neither false b h = (refl, h)

not_one : (at : ℕ) (name : List ℕ) (one : Local) → is_type one ≡ false → is_local_type at name one ≡ false
not_one at name (an_object names is_constant mark range value) h = refl
not_one at name (local_pragma p) h = refl
not_one at name (local_protected_unit u) h = ap (λ (b : Bool). b && nat_lt u.name.at at && is_same_name u.name.text name) h
not_one at name (local_task t) h = refl

-- where no declaration is a protected type, none is one of this name
pub no_local_type : (at : ℕ) (name : List ℕ) (locals : List Local) → list_any is_type locals ≡ false → is_among_local_types at name locals ≡ false
no_local_type at name [] h = refl
no_local_type at name (one ∷ more) h =
    let parts : (is_type one ≡ false) × (list_any is_type more ≡ false) = neither (is_type one) (list_any is_type more) h in
    ap (λ (b : Bool). b || is_among_local_types at name more) (not_one at name one parts.0) ∙ no_local_type at name more parts.1
