-- Names that are noted one by one: one stands twice where one of them was noted before.
use Rattle.std.proofs.Common.{◌≡◌, ◌∙◌, List, [], ◌∷◌, ◌++◌, ℕ, map, Bool, true, false, ap, refl}
use Rattle.std.specs.Prelude.{◌||◌}
use Rattle.std.specs.List.{list_any}
use Rattle.std.proofs.lemmas.List.Folds.{list_any-append}
use Rattle.rv_text.specs.Names.{is_same_name}
use Rattle.rv_shape.specs.declared.name.Sought.{Sought}
use Rattle.rv_shape.specs.Fits.{among, twice}
use Rattle.rv_shape.proofs.NumberingLemmas.{same_laws}

-- the name is among those that are noted
abbrev pub is_noted : List Sought → Sought → Bool
is_noted before n = list_any (λ k. is_same_name n.text.now k.text.now) before

-- one of these names is noted, where each is noted in turn
abbrev pub again : List Sought → List Sought → Bool
again before [] = false
again before (n ∷ more) = is_noted before n || again (before ++ n ∷ []) more

abbrev texts : List Sought → List (List ℕ)
texts names = map (λ n. n.text.now) names

or_none : (a : Bool) → (a || false) ≡ a
or_none true = refl
or_none false = refl

crossed : (a b c d : Bool) → ((a || b) || (c || d)) ≡ ((a || c) || (b || d))
crossed true b c d = refl
crossed false b true d = or_true b
  where
    or_true : (b : Bool) → (b || true) ≡ true
    or_true true = refl
    or_true false = refl
crossed false b false d = refl

grouped : (a b c d : Bool) → (a || ((b || c) || d)) ≡ ((a || b) || (c || d))
grouped true b c d = refl
grouped false true c d = refl
grouped false false c d = refl

-- what was noted, and one more
one_more : (before : List Sought) (n : Sought) (names : List Sought) →
    list_any (is_noted (before ++ n ∷ [])) names ≡ (list_any (is_noted before) names || among n.text.now (texts names))
one_more before n [] = refl
one_more before n (x ∷ names) =
    ap (λ (b : Bool). b || list_any (is_noted (before ++ n ∷ [])) names)
    (list_any-append (λ k. is_same_name x.text.now k.text.now) before (n ∷ [])
    ∙ ap (λ (b : Bool). is_noted before x || b) (or_none (is_same_name x.text.now n.text.now) ∙ same_laws.symm x.text.now n.text.now))
    ∙ ap (λ (b : Bool). (is_noted before x || is_same_name n.text.now x.text.now) || b) (one_more before n names)
    ∙ crossed (is_noted before x) (is_same_name n.text.now x.text.now) (list_any (is_noted before) names) (among n.text.now (texts names))

again_from : (before names : List Sought) → again before names ≡ (list_any (is_noted before) names || twice (texts names))
again_from before [] = refl
again_from before (n ∷ names) =
    ap (λ (b : Bool). is_noted before n || b) (again_from (before ++ n ∷ []) names)
    ∙ ap (λ (b : Bool). is_noted before n || (b || twice (texts names))) (one_more before n names)
    ∙ grouped (is_noted before n) (list_any (is_noted before) names) (among n.text.now (texts names)) (twice (texts names))

none_noted : (names : List Sought) → list_any (is_noted []) names ≡ false
none_noted [] = refl
none_noted (n ∷ names) = none_noted names

pub again_is_twice : (names : List Sought) → again [] names ≡ twice (map (λ n. n.text.now) names)
again_is_twice names = again_from [] names ∙ ap (λ (b : Bool). b || twice (texts names)) (none_noted names)
