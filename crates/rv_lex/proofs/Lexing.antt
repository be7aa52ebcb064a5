-- A text has one list of words, or a fault, and not both.
use Rattle.std.proofs.Common.{◌≡◌, ◌≢◌, ℕ, ◌+◌, List, [], ◌∷◌, length, take, drop, Result, Ok, Err, refl, sym, ap, ◌∙◌, subst}
use Rattle.rv_lex.specs.declared.kind.Kind.{Kind}
use Rattle.rv_lex.specs.declared.fault.WordFault.{WordFault}
use Rattle.rv_lex.specs.declared.fault.WordFault.TheVariants.{BadCharacter}
use Rattle.rv_lex.specs.Kinds.{Text, spelling, compound, simple, kind_spelled}
use Rattle.rv_lex.specs.Characters.{gap_len}
use Rattle.rv_lex.specs.Front.{word, delimiter}
use Rattle.rv_lex.specs.Lexes.{past_gap, Leads, Lexes, Lexeme, IsFirstFault}

abbrev Cut : Type 0
Cut = Result (Kind × ℕ) WordFault

abbrev fine : Kind × ℕ → Cut
fine x = Ok x

abbrev bad : WordFault → Cut
bad fault = Err fault

ok_same : (x y : Kind × ℕ) → fine x ≡ fine y → x ≡ y
ok_same x y h = cc

ok_is_no_fault : (x : Kind × ℕ) (fault : WordFault) → fine x ≡ bad fault → ⊥
ok_is_no_fault x fault h = absurd cc

-- no word stands at the end
word-nil : word [] ≡ bad BadCharacter
unfolding word delimiter kind_spelled compound simple spelling
word-nil = refl

no_word_at_end : (z : Text) (x : Kind × ℕ) → z ≡ [] → word z ≡ fine x → ⊥
no_word_at_end z x e h = ok_is_no_fault x BadCharacter (sym h ∙ ap word e ∙ word-nil)

-- what is left behind a word
abbrev behind : Text → ℕ → Text
behind z n = drop n (past_gap z)

same_lexeme : (t u : Lexeme) → t.kind ≡ u.kind → t.text ≡ u.text → t.place ≡ u.place → t ≡ u
same_lexeme t u a b c = λ i. record { kind = a i; text = b i; place = c i }

same_text : (z : Text) (t u : Lexeme) → length t.text ≡ length u.text → t.text ≡ take (length t.text) z → u.text ≡ take (length u.text) z → t.text ≡ u.text
same_text z t u e a b = a ∙ ap (λ n. take n z) e ∙ sym b

leads_one : (ts us : List Lexeme) (place : ℕ) (z : Text) (end : ℕ) (rest : Text) (end' : ℕ) (rest' : Text) → Leads place z ts end rest → past_gap rest ≡ [] → Leads place z us end' rest' → past_gap rest' ≡ [] → ts ≡ us
leads_one [] [] place z end rest end' rest' h last g last' = refl
leads_one [] (u ∷ us) place z end rest end' rest' h last g last' = absurd (no_word_at_end (past_gap z) (u.kind, length u.text) (ap past_gap h.1 ∙ last) g.0)
leads_one (t ∷ ts) [] place z end rest end' rest' h last g last' = absurd (no_word_at_end (past_gap z) (t.kind, length t.text) (ap past_gap g.1 ∙ last') h.0)
leads_one (t ∷ ts) (u ∷ us) place z end rest end' rest' h last g last' =
    let same = ok_same (t.kind, length t.text) (u.kind, length u.text) (sym h.0 ∙ g.0) in
    let len : length t.text ≡ length u.text = ap (λ p. p.1) same in
    let text : t.text ≡ u.text = same_text (past_gap z) t u len h.1 g.1 in
    let head : t ≡ u = same_lexeme t u (ap (λ p. p.0) same) text (h.2 ∙ sym g.2) in
    let more : Leads (place + gap_len z + length t.text) (behind z (length t.text)) us end' rest' =
    subst (λ (n : ℕ). Leads (place + gap_len z + n) (behind z n) us end' rest') (sym len) g.3 in
    let tail : ts ≡ us = leads_one ts us (place + gap_len z + length t.text) (behind z (length t.text)) end rest end' rest' h.3 last more last' in
    λ i. head i ∷ tail i

-- there is no second list of words
pub lexes_one : (z : Text) (ts us : List Lexeme) → Lexes z ts → Lexes z us → ts ≡ us
lexes_one z ts us h g = leads_one ts us 0 z h.end h.rest g.end g.rest h.words h.gap g.words g.gap

leads_refuses : (ts us : List Lexeme) (fault : WordFault) (place : ℕ) (z : Text) (end : ℕ) (rest : Text) (end' : ℕ) (rest' : Text) → Leads place z ts end rest → past_gap rest ≡ [] → Leads place z us end' rest' → past_gap rest' ≢ [] → word (past_gap rest') ≡ bad fault → ⊥
leads_refuses [] [] fault place z end rest end' rest' h last g some is = some (ap past_gap (sym g.1 ∙ h.1) ∙ last)
leads_refuses [] (u ∷ us) fault place z end rest end' rest' h last g some is = no_word_at_end (past_gap z) (u.kind, length u.text) (ap past_gap h.1 ∙ last) g.0
leads_refuses (t ∷ ts) [] fault place z end rest end' rest' h last g some is =
    ok_is_no_fault (t.kind, length t.text) fault (sym h.0 ∙ ap (λ r. word (past_gap r)) g.1 ∙ is)
leads_refuses (t ∷ ts) (u ∷ us) fault place z end rest end' rest' h last g some is =
    let len : length t.text ≡ length u.text = ap (λ p. p.1) (ok_same (t.kind, length t.text) (u.kind, length u.text) (sym h.0 ∙ g.0)) in
    let more : Leads (place + gap_len z + length t.text) (behind z (length t.text)) us end' rest' =
    subst (λ (n : ℕ). Leads (place + gap_len z + n) (behind z n) us end' rest') (sym len) g.3 in
    leads_refuses ts us fault (place + gap_len z + length t.text) (behind z (length t.text)) end rest end' rest' h.3 last more some is

-- a text with a fault has no list of words
pub lexes_refuses : (z : Text) (ts : List Lexeme) (fault : WordFault) (place : ℕ) → Lexes z ts → IsFirstFault z fault place → ⊥
lexes_refuses z ts fault place h g = leads_refuses ts g.before fault 0 z h.end h.rest g.end g.rest h.words h.gap g.words g.some g.fault_is
