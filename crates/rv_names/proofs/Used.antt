-- A loop over names of a `use`, or over bodies of operations: what is left after one more.
use Rattle.std.proofs.Common.{◌≡◌, ◌∙◌, ap, sym, ℕ, ◌+◌, ◌<◌, List, ◌∷◌, map, drop, length, get_or, add-one, suc}
use Rattle.std.specs.Prelude.{Bool}
use Rattle.std.proofs.Math.Seq.{drop-cons}
use Rattle.rv_tree.specs.declared.name.Name.{Name}
use Rattle.rv_tree.specs.NameView.{name_view}
use Rattle.rv_tree.specs.declared.body.OperationBody.{OperationBody}
use Rattle.rv_tree.specs.BodyView.{operation_body_view}
use Rattle.rv_scope.specs.declared.wanted.Wanted.TheVariants as w
use Rattle.rv_scope.specs.Scope.{ScopeView}
use Rattle.rv_scope.specs.Wanted.{denoted}
use Rattle.rv_scope.specs.Bound.{judged}
use Rattle.rv_scope.specs.UnitUses.{operation_body_uses, operation_bodies_uses, use_names_uses, use_names, used_by}

pub rest_is : {X : Type 0} (items : List X) (i : ℕ) (one : X) → one ≡ get_or items i one → i < length items → drop i items ≡ one ∷ drop (suc i) items
rest_is items i one is lt = drop-cons items i one lt ∙ ap (λ x. x ∷ drop (suc i) items) (sym is)

pub uses_on : (s s' : ScopeView) (f f' b : Bool) (items : List Name) (i : ℕ) (one : Name) → one ≡ get_or items i one → i < length items →
    s' ≡ used_by (denoted w.Use s (name_view one)) s → f' ≡ judged s w.Use (name_view one) f →
    use_names_uses judged s (map name_view (drop i items)) f ≡ b → use_names_uses judged s' (map name_view (drop (i + 1) items)) f' ≡ b
uses_on s s' f f' b items i one is lt es ef h =
    ap (λ (n : ℕ). use_names_uses judged s' (map name_view (drop n items)) f') (add-one i)
    ∙ ap (λ (z : ScopeView). use_names_uses judged z (map name_view (drop (suc i) items)) f') es
    ∙ ap (λ (z : Bool). use_names_uses judged (used_by (denoted w.Use s (name_view one)) s) (map name_view (drop (suc i) items)) z) ef
    ∙ ap (λ (xs : List Name). use_names_uses judged s (map name_view xs) f) (sym (rest_is items i one is lt))
    ∙ h

pub scope_on : (s s' t : ScopeView) (items : List Name) (i : ℕ) (one : Name) → one ≡ get_or items i one → i < length items →
    s' ≡ used_by (denoted w.Use s (name_view one)) s →
    use_names (map name_view (drop i items)) s ≡ t → use_names (map name_view (drop (i + 1) items)) s' ≡ t
scope_on s s' t items i one is lt es h =
    ap (λ (n : ℕ). use_names (map name_view (drop n items)) s') (add-one i)
    ∙ ap (λ (z : ScopeView). use_names (map name_view (drop (suc i) items)) z) es
    ∙ ap (λ (xs : List Name). use_names (map name_view xs) s) (sym (rest_is items i one is lt))
    ∙ h

pub bodies_on : (s l : ScopeView) (f f' b : Bool) (items : List OperationBody) (i : ℕ) (one : OperationBody) → one ≡ get_or items i one → i < length items →
    l ≡ s → f' ≡ operation_body_uses judged l (operation_body_view one) f →
    operation_bodies_uses judged s (map operation_body_view (drop i items)) f ≡ b → operation_bodies_uses judged s (map operation_body_view (drop (i + 1) items)) f' ≡ b
bodies_on s l f f' b items i one is lt es ef h =
    ap (λ (n : ℕ). operation_bodies_uses judged s (map operation_body_view (drop n items)) f') (add-one i)
    ∙ ap (λ (z : Bool). operation_bodies_uses judged s (map operation_body_view (drop (suc i) items)) z) ef
    ∙ ap (λ (z : ScopeView). operation_bodies_uses judged s (map operation_body_view (drop (suc i) items)) (operation_body_uses judged z (operation_body_view one) f)) es
    ∙ ap (λ (xs : List OperationBody). operation_bodies_uses judged s (map operation_body_view xs) f) (sym (rest_is items i one is lt))
    ∙ h
