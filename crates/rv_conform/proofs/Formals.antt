-- Lists of formal parameters: one more of them, and how they compare from an index on.
use Rattle.std.specs.Prelude.{ℕ, Bool, true, false, ◌&&◌, List, [], ◌∷◌, ◌++◌}
use Rattle.std.proofs.Common.{◌≡◌, ◌∙◌, ap, sym, refl, suc, ◌+◌, ◌<◌, ◌≤◌, length, drop, map, get_or, add-one, append_assoc}
use Rattle.std.proofs.lemmas.List.{drop_all}
use Rattle.std.proofs.Math.Seq.{drop-cons}
use Rattle.rv_tree.specs.declared.declaration.Parameter as declared
use Rattle.rv_tree.specs.DeclarationView.{parameter_view}
use Rattle.rv_scope.specs.declared.declare.Form.TheVariants as f
use Rattle.rv_scope.specs.Scope.{ScopeView, declaring_all, hiding_all}
use Rattle.rv_scope.specs.Statics.{Table}
use Rattle.rv_scope.specs.DeclarationUses.{with_parameters}
use Rattle.rv_conform.specs.Profiles.{Formal, parameter_formals, formals_in}
use Rattle.rv_conform.specs.Conforms.{formal_conforms, formals_conform}

and_false : (a b : Bool) → b ≡ false → (a && b) ≡ false
and_false true b e = e
and_false false b e = refl

-- of different lengths they don't conform
pub unequal : (xs ys : List Formal) → (length xs ≡ length ys → ⊥) → formals_conform xs ys ≡ false
unequal [] [] differ = absurd (differ refl)
unequal [] (y ∷ ys) differ = refl
unequal (x ∷ xs) [] differ = refl
unequal (x ∷ xs) (y ∷ ys) differ =
    and_false (formal_conforms x y) (formals_conform xs ys) (unequal xs ys (λ e. differ (ap suc e)))

rest_is : (xs : List Formal) (i : ℕ) (x : Formal) → x ≡ get_or xs i x → i < length xs → drop i xs ≡ x ∷ drop (i + 1) xs
rest_is xs i x is lt =
    drop-cons xs i x lt ∙ ap (λ (z : Formal). z ∷ drop (suc i) xs) (sym is)
    ∙ ap (λ (n : ℕ). x ∷ drop n xs) (sym (add-one i))

-- what is left behind one more of each
pub over : (xs ys : List Formal) (i : ℕ) (x y : Formal) → x ≡ get_or xs i x → i < length xs → y ≡ get_or ys i y → i < length ys →
    formals_conform (drop i xs) (drop i ys) ≡ (formal_conforms x y && formals_conform (drop (i + 1) xs) (drop (i + 1) ys))
over xs ys i x y x_is x_lt y_is y_lt =
    ap (λ (a : List Formal). formals_conform a (drop i ys)) (rest_is xs i x x_is x_lt)
    ∙ ap (λ (b : List Formal). formals_conform (x ∷ drop (i + 1) xs) b) (rest_is ys i y y_is y_lt)

-- and at the end of both
pub ended : (xs ys : List Formal) (i : ℕ) → length xs ≤ i → length ys ≤ i → formals_conform (drop i xs) (drop i ys) ≡ true
ended xs ys i x_end y_end =
    ap (λ (a : List Formal). formals_conform a (drop i ys)) (drop_all i xs x_end)
    ∙ ap (λ (b : List Formal). formals_conform [] b) (drop_all i ys y_end)

one_left : (items : List declared.Parameter) (i : ℕ) (one : declared.Parameter) → one ≡ get_or items i one → i < length items →
    drop i items ≡ one ∷ drop (i + 1) items
one_left items i one is lt =
    drop-cons items i one lt ∙ ap (λ (p : declared.Parameter). p ∷ drop (suc i) items) (sym is)
    ∙ ap (λ (n : ℕ). one ∷ drop n items) (sym (add-one i))

-- a loop over parameters: what is left behind one more
pub formals_on : (statics : Table) (s s' : ScopeView) (done done' target : List Formal) (items : List declared.Parameter) (i : ℕ) (one : declared.Parameter) →
    one ≡ get_or items i one → i < length items →
    done' ≡ done ++ parameter_formals statics s (parameter_view one) →
    s' ≡ declaring_all f.Parameter (parameter_view one).names (hiding_all (parameter_view one).names s) →
    done ++ formals_in statics s (map parameter_view (drop i items)) ≡ target →
    done' ++ formals_in statics s' (map parameter_view (drop (i + 1) items)) ≡ target
formals_on statics s s' done done' target items i one is lt added declared_too h =
    let behind : List Formal = formals_in statics (declaring_all f.Parameter (parameter_view one).names (hiding_all (parameter_view one).names s)) (map parameter_view (drop (i + 1) items)) in
    ap (λ (fs : List Formal). fs ++ formals_in statics s' (map parameter_view (drop (i + 1) items))) added
    ∙ ap (λ (z : ScopeView). (done ++ parameter_formals statics s (parameter_view one)) ++ formals_in statics z (map parameter_view (drop (i + 1) items))) declared_too
    ∙ append_assoc done (parameter_formals statics s (parameter_view one)) behind
    ∙ ap (λ (ps : List declared.Parameter). done ++ formals_in statics s (map parameter_view ps)) (sym (one_left items i one is lt))
    ∙ h

pub scope_on : (s s' t : ScopeView) (items : List declared.Parameter) (i : ℕ) (one : declared.Parameter) → one ≡ get_or items i one → i < length items →
    s' ≡ declaring_all f.Parameter (parameter_view one).names (hiding_all (parameter_view one).names s) →
    with_parameters (map parameter_view (drop i items)) s ≡ t → with_parameters (map parameter_view (drop (i + 1) items)) s' ≡ t
scope_on s s' t items i one is lt declared_too h =
    ap (λ (z : ScopeView). with_parameters (map parameter_view (drop (i + 1) items)) z) declared_too
    ∙ ap (λ (ps : List declared.Parameter). with_parameters (map parameter_view ps) s) (sym (one_left items i one is lt))
    ∙ h
