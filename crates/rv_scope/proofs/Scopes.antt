-- A region that was begun ends where it began, whatever was declared in it.
use Rattle.std.proofs.Common.{◌≡◌, ◌∙◌, ap, sym, subst, refl, ℕ, Option}
use Rattle.rv_tree.specs.Names.{Identifier}
use Rattle.rv_scope.specs.declared.declared.Declared.{Declared}
use Rattle.rv_scope.specs.Scope.{Region, ScopeView, OnlyDeclares, entered, in_body, with_meaning}

pub left : (s0 e s new : ScopeView) → ((scope : ScopeView) (region : Region) → s ≡ record (entered scope) { innermost = region } → new ≡ scope) →
    e ≡ entered s0 → OnlyDeclares e s → new ≡ s0
left s0 e s new leave entering only =
    leave s0 s.innermost (only ∙ ap (λ (x : ScopeView). record x { innermost = s.innermost }) entering)

-- and so does the region of a body, in the body that was around it
pub left_body : (s0 e s new : ScopeView) (i : Identifier) (around : Option ℕ) →
    ((scope : ScopeView) (region : Region) (at : Option ℕ) → s ≡ record (entered scope) { innermost = region; body = at } → new ≡ record scope { body = around }) →
    e ≡ in_body i s0 → around ≡ s0.body → OnlyDeclares e s → new ≡ s0
left_body s0 e s new i around leave entering is only =
    leave s0 s.innermost (in_body i s0).body (only ∙ ap (λ (x : ScopeView). record x { innermost = s.innermost }) entering)
    ∙ ap (λ (b : Option ℕ). record s0 { body = b }) is

pub declares_on : (a b c : ScopeView) → OnlyDeclares a b → OnlyDeclares b c → OnlyDeclares a c
declares_on a b c first then_ = then_ ∙ ap (λ (x : ScopeView). record x { innermost = c.innermost }) first

pub declares_two : (a b c : ScopeView) (i j : Identifier) (m n : Option Declared) → b ≡ with_meaning i m a → c ≡ with_meaning j n b → OnlyDeclares a c
declares_two a b c i j m n first second =
    let P : ScopeView → Type 0 = λ x. OnlyDeclares a x in
    subst P (sym (second ∙ ap (λ x. with_meaning j n x) first)) refl
