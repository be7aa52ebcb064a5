-- The list of tokens that a cursor shows.
use Rattle.std.proofs.Common.{◌≡◌, ℕ, true, false, List, [], ◌∷◌, length, drop, refl, sym, ap, arith, Option, Some, None, ◌-◌, take, ◌<◌, ◌≤◌, get_or}
use Rattle.std.specs.Prelude.{slice_get}
use Rattle.std.proofs.lemmas.List.{take_all}
use Rattle.rv_lex.specs.declared.kind.Kind.{Kind}
use Rattle.rv_lex.specs.declared.token.Token.{Token}
use Rattle.rv_lex.specs.Lexes.{Lexeme, lexemes}
use Rattle.rv_lex.specs.Literals.{value_of}
use Rattle.rv_grammar.specs.Reading.{IsPlace, next, place, text, value, sees, same_kind, kind}

pub sees_at : (what : Kind) (ts : List Token) (t : Token) → slice_get ts 0 ≡ Some t → same_kind t.kind what ≡ sees what (lexemes ts)
unfolding sees
sees_at what [] t h = absurd cc
sees_at what (a ∷ ts) t h = let e : a ≡ t = cc in ap (λ (x : Token). same_kind x.kind what) (sym e)

pub sees_none : (what : Kind) (ts : List Token) → slice_get ts 0 ≡ None → false ≡ sees what (lexemes ts)
unfolding sees
sees_none what [] h = refl
sees_none what (a ∷ ts) h = absurd cc

pub sees_second_at : (what : Kind) (ts : List Token) (t : Token) → 1 < length ts → t ≡ get_or ts 1 t → same_kind t.kind what ≡ sees what (next (lexemes ts))
unfolding sees next
sees_second_at what [] t below h = absurd (omega arith)
sees_second_at what (a ∷ []) t below h = absurd (omega arith)
sees_second_at what (a ∷ b ∷ ts) t below h = ap (λ (x : Token). same_kind x.kind what) h

pub sees_second_none : (what : Kind) (ts : List Token) → length ts ≤ 1 → false ≡ sees what (next (lexemes ts))
unfolding sees next
sees_second_none what [] h = refl
sees_second_none what (a ∷ []) h = refl
sees_second_none what (a ∷ b ∷ ts) h = absurd (omega arith)

pub at_token : (ts : List Token) (t : Token) → slice_get ts 0 ≡ Some t → t.place ≡ place (lexemes ts)
unfolding place
at_token [] t h = absurd cc
at_token (a ∷ ts) t h = let e : a ≡ t = cc in ap (λ (x : Token). x.place) (sym e)

pub at_none : (ts : List Token) → slice_get ts 0 ≡ None → 0 ≡ place (lexemes ts)
unfolding place
at_none [] h = refl
at_none (a ∷ ts) h = absurd cc

pub kind_at : (ts : List Token) (t : Token) → slice_get ts 0 ≡ Some t → let some : Option Kind = Some t.kind in some ≡ kind (lexemes ts)
unfolding kind
kind_at [] t h = absurd cc
kind_at (a ∷ ts) t h = let e : a ≡ t = cc in ap (λ (x : Token). Some x.kind) (sym e)

pub kind_none : (ts : List Token) → slice_get ts 0 ≡ None → let none : Option Kind = None in none ≡ kind (lexemes ts)
unfolding kind
kind_none [] h = refl
kind_none (a ∷ ts) h = absurd cc

pub place_is : (what : Kind) (ts : List Lexeme) (at : ℕ) → IsPlace ts at → sees what ts ≡ true → at ≡ place ts
unfolding place sees
place_is what [] at h g = absurd cc
place_is what (t ∷ ts) at h g = h

pub text_at : (ts : List Token) (t : Token) → slice_get ts 0 ≡ Some t → t.text.now ≡ text (lexemes ts)
unfolding text
text_at [] t h = absurd cc
text_at (a ∷ ts) t h = let e : a ≡ t = cc in ap (λ (x : Token). x.text.now) (sym e)

pub text_none : (ts : List Token) → slice_get ts 0 ≡ None → [] ≡ text (lexemes ts)
unfolding text
text_none [] h = refl
text_none (a ∷ ts) h = absurd cc

pub value_at : (ts : List Token) (t : Token) → slice_get ts 0 ≡ Some t → value_of t.text.now ≡ value (lexemes ts)
unfolding value
value_at [] t h = absurd cc
value_at (a ∷ ts) t h = let e : a ≡ t = cc in ap (λ (x : Token). value_of x.text.now) (sym e)

pub value_none : (ts : List Token) → slice_get ts 0 ≡ None → 0 ≡ value (lexemes ts)
unfolding value
value_none [] h = refl
value_none (a ∷ ts) h = absurd cc

pub next_none : (ts : List Token) → length ts ≡ 0 → lexemes ts ≡ next (lexemes ts)
unfolding next
next_none [] h = refl
next_none (a ∷ ts) h = absurd (omega arith)

pub rest_is : (ts : List Token) → lexemes (take (length ts - 1) (drop 1 ts)) ≡ next (lexemes ts)
unfolding next
rest_is [] = refl
rest_is (a ∷ ts) =
    let e : length (a ∷ ts) - 1 ≡ length ts = omega arith in
    rw e (ap (λ (l : List Token). lexemes l) (take_all (length ts) ts (omega arith)))
