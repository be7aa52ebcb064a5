-- A loop that was begun ends where it began.
use Rattle.std.proofs.Common.{◌≡◌, ◌∙◌, ap, sym, subst, Option, ℕ, ◌-◌, List, [], ◌∷◌, ◌++◌, length, take, arith}
use Rattle.std.proofs.lemmas.List.{length-append}
use Rattle.std.proofs.Math.Seq.{take-append_seam}
use Rattle.rv_tree.specs.Names.{Identifier}
use Rattle.rv_shape.specs.declared.kind.Range.{Range}
use Rattle.rv_scope.specs.Scope.{ScopeView, Region, OnlyDeclares, entered, in_body}
use Rattle.rv_scope.proofs.Scopes.{left_body, declares_on}
use Rattle.rv_types.specs.declared.point.Local.{Local}
use Rattle.rv_types.specs.Points.{PointView, in_bounds, with_loop_parameter}

pub loop_ended : (q p : PointView) (i : Identifier) (r : Range) (s : ScopeView) (ls : List Local) (n : ℕ) →
    q ≡ with_loop_parameter i r (in_bounds i p) → s ≡ p.scope → ls ≡ p.locals → n ≡ p.slots →
    record q { scope = s; locals = ls; slots = n } ≡ p
loop_ended q p i r s ls n h es el en =
    ap (λ (x : ScopeView). record q { scope = x; locals = ls; slots = n }) es
    ∙ ap (λ (x : List Local). record q { scope = p.scope; locals = x; slots = n }) el
    ∙ ap (λ (x : ℕ). record q { scope = p.scope; locals = p.locals; slots = x }) en
    ∙ ap (λ (x : PointView). record x { scope = p.scope; locals = p.locals; slots = p.slots }) h

-- what stands before the last of a list of so many
pub before_last : (ls : List Local) (x : Local) (xs rest : List Local) (n : ℕ) →
    xs ≡ ls ++ x ∷ [] → n ≡ length xs → rest ≡ take (n - 1) xs → rest ≡ ls
before_last ls x xs rest n h long r =
    let m : n - 1 ≡ length ls = omega (arith, long, ap (λ (ys : List Local). length ys) h, length-append ls (x ∷ [])) in
    r ∙ ap (λ (ys : List Local). take (n - 1) ys) h
    ∙ ap (λ (k : ℕ). take k (ls ++ x ∷ [])) m ∙ take-append_seam ls (x ∷ [])

-- declarations in the innermost region change it alone
pub declares_from : (a b c : ScopeView) → b ≡ a → OnlyDeclares b c → OnlyDeclares a c
declares_from a b c same second = second ∙ ap (λ (x : ScopeView). record x { innermost = c.innermost }) same

-- a body ends where it began: at its start parameters were declared, and then what its block declares
pub body_left : (s0 e e2 s new : ScopeView) (p q : PointView) (i : Identifier) (outer : Option ℕ) →
    ((scope : ScopeView) (region : Region) (at : Option ℕ) → s ≡ record (entered scope) { innermost = region; body = at } → new ≡ record scope { body = outer }) →
    e ≡ in_body i s0 → outer ≡ s0.body → OnlyDeclares e e2 → p.scope ≡ e2 → OnlyDeclares p.scope q.scope → s ≡ q.scope → new ≡ s0
body_left s0 e e2 s new p q i outer leave entering is first begins only ends =
    let P : ScopeView → Type 0 = λ x. OnlyDeclares e x in
    let Q : ScopeView → Type 0 = λ x. OnlyDeclares x q.scope in
    left_body s0 e s new i outer leave entering is (subst P (sym ends) (declares_on e e2 q.scope first (subst Q begins only)))
