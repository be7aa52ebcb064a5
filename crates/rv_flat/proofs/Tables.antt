-- Tables of nodes, and the trees that they stand for.
use Rattle.std.proofs.Common.{◌≡◌, refl, ap, sym, ◌∙◌, subst, arith, ℕ, zero, suc, ◌+◌, ◌-◌, ◌≤◌, ◌<◌, List, [], ◌∷◌, ◌++◌, length, Option, Some, None, ◌⊎◌, inl, inr, length-append}
use Rattle.std.specs.Prelude.{slice_get}
use Rattle.std.proofs.lemmas.Option.{slice_get_past, slice_get_within, slice_get_cases}
use Rattle.rv_flat.specs.declared.code.Node.{Node}
use Rattle.rv_flat.specs.declared.code.Kind.{Kind}
use Rattle.rv_flat.specs.Trees.{Tree, tree_at, tree_by, tree_of, grown, trees_of, IsBackward, IsTable, IsAdded}

pub grown_behind : (ts : List Tree) (ns : List Node) (n : Node) → grown ts (ns ++ n ∷ []) ≡ grown ts ns ++ tree_of (grown ts ns) n ∷ []
unfolding grown
grown_behind ts [] n = refl
grown_behind ts (m ∷ ns) n = grown_behind (ts ++ tree_of ts m ∷ []) ns n

pub grown_length : (ts : List Tree) (ns : List Node) → length (grown ts ns) ≡ length ts + length ns
unfolding grown
grown_length ts [] = omega arith
grown_length ts (n ∷ ns) =
    let e = grown_length (ts ++ tree_of ts n ∷ []) ns in
    let l = length-append ts (tree_of ts n ∷ []) in
    e ∙ omega (arith, l)

pub front_in : {X : Type 0} (xs ys : List X) (i : ℕ) → i < length xs → slice_get (xs ++ ys) i ≡ slice_get xs i
front_in [] ys i lt = absurd (omega (arith, lt))
front_in (x ∷ xs) ys zero lt = refl
front_in (x ∷ xs) ys (suc i) lt = front_in xs ys i (omega (arith, lt))

pub seam : {X : Type 0} (xs ys : List X) (y : X) → slice_get (xs ++ y ∷ ys) (length xs) ≡ Some y
seam [] ys y = refl
seam (x ∷ xs) ys y = seam xs ys y

at_kept : (ts us : List Tree) (c : ℕ) → c ≤ length ts → tree_at (ts ++ us) c ≡ tree_at ts c
at_kept ts us zero le = refl
at_kept ts us (suc n) le = front_in ts us n (omega (arith, le))

grown_front : (ts : List Tree) (ns : List Node) (i : ℕ) → i < length ts → slice_get (grown ts ns) i ≡ slice_get ts i
unfolding grown
grown_front ts [] i lt = refl
grown_front ts (n ∷ ns) i lt =
    let l = length-append ts (tree_of ts n ∷ []) in
    grown_front (ts ++ tree_of ts n ∷ []) ns i (omega (arith, lt, l)) ∙ front_in ts (tree_of ts n ∷ []) i lt

grown_at : (ts : List Tree) (ns : List Node) (c : ℕ) → c ≤ length ts → tree_at (grown ts ns) c ≡ tree_at ts c
grown_at ts ns zero le = refl
grown_at ts ns (suc n) le = grown_front ts ns n (omega (arith, le))

-- a node stands for the same behind trees that agree on its children
by_children : (k : Kind) (a b c a' b' c' : Option Tree) → a ≡ a' → b ≡ b' → c ≡ c' → tree_by k a b c ≡ tree_by k a' b' c'
by_children k a b c a' b' c' p q r = λ i. tree_by k (p i) (q i) (r i)

pub of_more : (ts us : List Tree) (n : Node) → IsBackward (length ts) n → tree_of (ts ++ us) n ≡ tree_of ts n
of_more ts us n h = by_children n.kind _ _ _ _ _ _ (at_kept ts us n.first h.0) (at_kept ts us n.second h.1) (at_kept ts us n.third h.2)

of_grown : (ts : List Tree) (ns : List Node) (n : Node) → IsBackward (length ts) n → tree_of (grown ts ns) n ≡ tree_of ts n
of_grown ts ns n h = by_children n.kind _ _ _ _ _ _ (grown_at ts ns n.first h.0) (grown_at ts ns n.second h.1) (grown_at ts ns n.third h.2)

some_same : {X : Type 0} (x y : X) → Some x ≡ Some y → x ≡ y
some_same x y e = cc e

-- the node at an index behind these trees
read_from : (ts : List Tree) (ns : List Node) (i : ℕ) (n : Node) → slice_get ns i ≡ Some n → IsBackward (length ts + i) n → slice_get (grown ts ns) (length ts + i) ≡ Some (tree_of (grown ts ns) n)
unfolding grown
read_from ts [] i n e h = absurd (cc e)
read_from ts (m ∷ ns) zero n e h =
    let z : length ts + 0 ≡ length ts = omega arith in
    let same : m ≡ n = some_same m n e in
    let h' = subst (λ (k : ℕ). IsBackward k n) z h in
    let l = length-append ts (tree_of ts m ∷ []) in
    let at : slice_get (grown (ts ++ tree_of ts m ∷ []) ns) (length ts) ≡ Some (tree_of ts m) =
    grown_front (ts ++ tree_of ts m ∷ []) ns (length ts) (omega (arith, l)) ∙ seam ts [] (tree_of ts m) in
    let whole : tree_of (grown (ts ++ tree_of ts m ∷ []) ns) n ≡ tree_of ts n = of_grown ts (m ∷ ns) n h' in
    subst (λ (k : ℕ). slice_get (grown (ts ++ tree_of ts m ∷ []) ns) k ≡ Some (tree_of (grown (ts ++ tree_of ts m ∷ []) ns) n)) (sym z)
    (at ∙ (ap (λ (x : Node). Some (tree_of ts x)) same ∙ ap Some (sym whole)))
read_from ts (m ∷ ns) (suc i) n e h =
    let l = length-append ts (tree_of ts m ∷ []) in
    let z : length (ts ++ tree_of ts m ∷ []) + i ≡ length ts + suc i = omega (arith, l) in
    subst (λ (k : ℕ). slice_get (grown (ts ++ tree_of ts m ∷ []) ns) k ≡ Some (tree_of (grown (ts ++ tree_of ts m ∷ []) ns) n)) z
    (read_from (ts ++ tree_of ts m ∷ []) ns i n e (subst (λ (k : ℕ). IsBackward k n) (sym z) h))

read_index : (nodes : List Node) (i : ℕ) (n : Node) → IsTable nodes → slice_get nodes i ≡ Some n → slice_get (trees_of nodes) i ≡ Some (tree_of (trees_of nodes) n)
read_index nodes i n h e =
    let z : 0 + i ≡ i = omega arith in
    subst (λ (k : ℕ). slice_get (trees_of nodes) k ≡ Some (tree_of (trees_of nodes) n)) z
    (read_from [] nodes i n e (subst (λ (k : ℕ). IsBackward k n) (sym z) (h i n e)))

-- the node of a number
pub read : (nodes : List Node) (number : ℕ) (n : Node) → IsTable nodes → 0 < number → slice_get nodes (number - 1) ≡ Some n → tree_at (trees_of nodes) number ≡ Some (tree_of (trees_of nodes) n)
read nodes zero n h lt e = absurd (omega (arith, lt))
read nodes (suc i) n h lt e =
    let z : suc i - 1 ≡ i = omega arith in
    read_index nodes i n h (subst (λ (k : ℕ). slice_get nodes k ≡ Some n) z e)

pub read_past : (nodes : List Node) (number : ℕ) → 0 < number → slice_get nodes (number - 1) ≡ None → tree_at (trees_of nodes) number ≡ None
read_past nodes zero lt e = refl
read_past nodes (suc i) lt e =
    let z : suc i - 1 ≡ i = omega arith in
    let e' : slice_get nodes i ≡ None = subst (λ (k : ℕ). slice_get nodes k ≡ None) z e in
    let l = grown_length [] nodes in
    elim ((slice_get_cases nodes i).1) [
      | inl w ↦ absurd (cc (sym e' ∙ w.2))
      | inr w ↦ slice_get_past (trees_of nodes) i (let p = w.0 in omega (arith, l, p))
    ]

pub read_backward : (nodes : List Node) (number : ℕ) (n : Node) → IsTable nodes → slice_get nodes (number - 1) ≡ Some n → IsBackward (number - 1) n
read_backward nodes number n h e = h (number - 1) n e

-- a node more
pub table_more : (nodes : List Node) (n : Node) → IsTable nodes → IsBackward (length nodes) n → IsTable (nodes ++ n ∷ [])
table_more nodes n h b i m e =
    let l = length-append nodes (n ∷ []) in
    let within = slice_get_within (nodes ++ n ∷ []) i m e in
    elim (le_or i (length nodes) (omega (arith, within, l))) [
      | inl lt ↦ h i m (sym (front_in nodes (n ∷ []) i lt) ∙ e)
      | inr same ↦
          let e' : slice_get (nodes ++ n ∷ []) (length nodes) ≡ Some m = subst (λ (k : ℕ). slice_get (nodes ++ n ∷ []) k ≡ Some m) same e in
          let n_is : n ≡ m = some_same n m (sym (seam nodes [] n) ∙ e') in
          subst (λ (k : ℕ). IsBackward k m) (sym same) (subst (λ (x : Node). IsBackward (length nodes) x) n_is b)
    ]
  where
    le_or : (i k : ℕ) → i ≤ k → (i < k) ⊎ (i ≡ k)
    le_or i k le = Prim.grind (arith, le)

pub added : (nodes : List Node) (n : Node) (number : ℕ) → number ≡ length nodes + 1 → IsAdded (trees_of nodes) n (trees_of (nodes ++ n ∷ [])) number
added nodes n number is =
    let l = grown_length [] nodes in
    record { grown = grown_behind [] nodes n; last = omega (arith, l, is) }

pub table_added : (old new : List Node) (n : Node) → new ≡ old ++ n ∷ [] → IsTable old → IsBackward (length (trees_of old)) n → IsTable new
table_added old new n is h b =
    let l = grown_length [] old in
    let e : length (trees_of old) ≡ length old = omega (arith, l) in
    subst IsTable (sym is) (table_more old n h (subst (λ (k : ℕ). IsBackward k n) e b))

pub added_as : (old new : List Node) (n : Node) (number : ℕ) → new ≡ old ++ n ∷ [] → number ≡ length new → IsAdded (trees_of old) n (trees_of new) number
added_as old new n number is at =
    let l = length-append old (n ∷ []) in
    let m : length new ≡ length (old ++ n ∷ []) = ap length is in
    subst (λ (x : List Node). IsAdded (trees_of old) n (trees_of x) number) (sym is) (added old n number (omega (arith, at, l, m)))

pub none_yet : (nodes : List Node) → nodes ≡ [] → trees_of nodes ≡ []
unfolding grown
none_yet nodes is = ap trees_of is
