-- The steps that every rule is made of, read backwards: what follows from an outcome.
use Rattle.std.proofs.Common.{◌≡◌, ◌⊎◌, inl, inr, ℕ, zero, suc, Bool, true, false, cond, List, [], ◌∷◌, ◌++◌, length, Ok, Err, refl, sym, ap, ◌∙◌, subst, rules, append_assoc, append-nil}
use denote.Enum.Bare.{same_true}
use Rattle.rv_lex.specs.declared.kind.Kind.{Kind}
use Rattle.rv_lex.specs.declared.kind.Kind.TheVariants as k
use Rattle.rv_lex.specs.contracts.kind.Kind.{the_type}
use Rattle.rv_lex.specs.Lexes.{Lexeme}
use Rattle.rv_tree.specs.Phrases.{Phrase, Is, IsAt, Flag, Maybe, Each, AtLeastOne, After, EachAfter, Listed, Enclosed}
use Rattle.rv_tree.specs.NameGrammar.{IsIdentifier}
use Rattle.rv_grammar.specs.Reading.{Outcome, Parser, and_then, same_kind, sees, next, after, place, text, expect, many_from, more_of, many, at_least_one, behind, more_after, listed, enclosed, optional, optional_after}
use Rattle.rv_grammar.specs.NameRules.{identifier}

-- what is read is what the grammar says
abbrev pub Sound : {A : Type 0} → (A → Phrase) → Parser A → Type 0
Sound {A = A} is p = (ts : List Lexeme) (r : A × List Lexeme) → p ts ≡ Ok r → is r.0 ts r.1

-- the parts of a step that succeeded
pub bind_ok : {A B : Type 0} (r : Outcome A) (f : A → Parser B) (y : B × List Lexeme) → and_then r f ≡ Ok y → (p : A × List Lexeme) × (r ≡ Ok p) × (f p.0 p.1 ≡ Ok y)
bind_ok (Ok p) f y h = (p, refl, h)
bind_ok (Err e) f y h = absurd cc

abbrev pub fine : {A : Type 0} → A × List Lexeme → Outcome A
fine p = Ok p

pub ok_is : {A : Type 0} (x y : A × List Lexeme) → fine x ≡ Ok y → x ≡ y
ok_is x y h = cc

-- what was shown of a value that a rule gives
pub given : {A : Type 0} (is : A → Phrase) (ts : List Lexeme) (x y : A × List Lexeme) → fine x ≡ Ok y → is x.0 ts x.1 → is y.0 ts y.1
given {A = A} is ts x y h g = subst (λ (q : A × List Lexeme). is q.0 ts q.1) (ok_is x y h) g

-- the side of a choice of rules that was taken
pub branch_ok : {A : Type 0} (b : Bool) (p q : Parser A) (i : List Lexeme) (y : A × List Lexeme) → cond b p q i ≡ Ok y → ((b ≡ true) × (p i ≡ Ok y)) ⊎ ((b ≡ false) × (q i ≡ Ok y))
branch_ok true p q i y h = inl (refl, h)
branch_ok false p q i y h = inr (refl, h)

-- the side of a choice of outcomes
pub chosen : {X : Type 0} (b : Bool) (x y z : X) → cond b x y ≡ z → ((b ≡ true) × (x ≡ z)) ⊎ ((b ≡ false) × (y ≡ z))
chosen true x y z h = inl (refl, h)
chosen false x y z h = inr (refl, h)

pub same_means : (a b : Kind) → same_kind a b ≡ true → a ≡ b
unfolding same_kind
same_means a b h = same_true the_type (search rules) a b h

pub sees_means : (what : Kind) (ts : List Lexeme) → sees what ts ≡ true → (t : Lexeme) × (ts ≡ t ∷ next ts) × (t.kind ≡ what) × (t.place ≡ place ts) × (t.text ≡ text ts)
unfolding sees next place text
sees_means what [] h = absurd cc
sees_means what (t ∷ ts) h = (t, refl, same_means t.kind what h, refl, refl)

pub eaten : (what : Kind) (ts : List Lexeme) → sees what ts ≡ true → Is what ts (after what ts)
unfolding after
eaten what ts h = let s = sees_means what ts h in rw h (s.0, s.1, s.2)

pub not_eaten : (what : Kind) (ts : List Lexeme) → sees what ts ≡ false → after what ts ≡ ts
unfolding after
not_eaten what ts h = rw h

pub skipped : (what : Kind) (ts : List Lexeme) → sees what ts ≡ true → IsAt what (place ts) ts (next ts)
skipped what ts h = let s = sees_means what ts h in (s.0, s.1, s.2, s.3)

pub taken : (what : Kind) (ts : List Lexeme) → sees what ts ≡ true → Is what ts (next ts)
taken what ts h = let s = sees_means what ts h in (s.0, s.1, s.2)

-- what a token that was expected is
pub expected_at : (what : Kind) (ts : List Lexeme) (p : ℕ × List Lexeme) → expect what ts ≡ Ok p → IsAt what p.0 ts p.1
unfolding expect
expected_at what ts p h = elim (chosen (sees what ts) _ _ _ h) [
  | inl g ↦ subst (λ (q : ℕ × List Lexeme). IsAt what q.0 ts q.1) (ok_is _ _ g.1) (skipped what ts g.0)
  | inr g ↦ absurd cc
]

pub expected : (what : Kind) (ts : List Lexeme) (p : ℕ × List Lexeme) → expect what ts ≡ Ok p → Is what ts p.1
expected what ts p h = let s = expected_at what ts p h in (s.0, s.1, s.2)

pub identifier_sound : Sound IsIdentifier identifier
unfolding identifier
identifier_sound ts r h = elim (chosen (sees k.Identifier ts) _ _ _ h) [
  | inl g ↦ let s = sees_means k.Identifier ts g.0 in
      given IsIdentifier ts _ r g.1 (s.0, s.1, s.2, s.3, s.4)
  | inr g ↦ absurd cc
]

-- a word that may be there
pub flag_sound : (what : Kind) (ts : List Lexeme) → Flag what (sees what ts) ts (after what ts)
flag_sound what ts = by_test (sees what ts) refl
  where
    by_test : (b : Bool) → sees what ts ≡ b → Flag what b ts (after what ts)
    by_test true h = eaten what ts h
    by_test false h = sym (not_eaten what ts h)

-- {x}, where what begins so is what the grammar says
module _ {A : Type 0} (is : A → Phrase) (item : Parser A) (begins : List Lexeme → Bool) (sound : (ts : List Lexeme) (r : A × List Lexeme) → begins ts ≡ true → item ts ≡ Ok r → is r.0 ts r.1) where
  many_from_sound : (n : ℕ) (found : List A) (ts : List Lexeme) (r : List A × List Lexeme) → many_from begins item n found ts ≡ Ok r → (more : List A) × (r.0 ≡ found ++ more) × Each is more ts r.1
  unfolding many_from
  many_from_sound zero found ts r h =
      let e = ok_is _ _ h in
      ([], sym (append-nil found ∙ ap (λ (q : List A × List Lexeme). q.0) e), ap (λ (q : List A × List Lexeme). q.1) e)
  many_from_sound (suc n) found ts r h = elim (chosen (begins ts) _ _ _ h) [
    | inl g ↦
        let a = bind_ok (item ts) _ r g.1 in
        let b = many_from_sound n (found ++ a.0.0 ∷ []) a.0.1 r a.2 in
        (a.0.0 ∷ b.0, b.1 ∙ append_assoc found (a.0.0 ∷ []) b.0, (a.0.1, sound ts a.0 g.0 a.1, b.2))
    | inr g ↦
        let e = ok_is _ _ g.1 in
        ([], sym (append-nil found ∙ ap (λ (q : List A × List Lexeme). q.0) e), ap (λ (q : List A × List Lexeme). q.1) e)
  ]

module _ {A : Type 0} (is : A → Phrase) (item : Parser A) (sound : Sound is item) where
  pub many_sound : (begins : List Lexeme → Bool) → Sound (Each is) (many begins item)
  unfolding many more_of
  many_sound begins ts r h =
      let m = many_from_sound is item begins (λ us q g. sound us q) (length ts) [] ts r h in
      subst (λ l. Each is l ts r.1) (sym m.1) m.2

  pub at_least_one_sound : (begins : List Lexeme → Bool) → Sound (AtLeastOne is) (at_least_one begins item)
  unfolding at_least_one more_of
  at_least_one_sound begins ts r h =
      let a = bind_ok (item ts) _ r h in
      let m = many_from_sound is item begins (λ us q g. sound us q) (length a.0.1) (a.0.0 ∷ []) a.0.1 r a.2 in
      subst (λ l. AtLeastOne is l ts r.1) (sym m.1) (a.0.1, sound ts a.0 a.1, m.2)

  pub optional_sound : (begins : List Lexeme → Bool) → Sound (Maybe is) (optional begins item)
  unfolding optional
  optional_sound begins ts r h = elim (chosen (begins ts) _ _ _ h) [
    | inl g ↦ let a = bind_ok (item ts) _ r g.1 in given (Maybe is) ts _ r a.2 (sound ts a.0 a.1)
    | inr g ↦ given (Maybe is) ts _ r g.1 refl
  ]

  pub optional_after_sound : (word : Kind) → Sound (Maybe (After word is)) (optional_after word item)
  unfolding optional_after
  optional_after_sound word ts r h = elim (branch_ok (sees word ts) _ _ _ r h) [
    | inl g ↦ let a = bind_ok (item (after word ts)) _ r g.1 in
        given (Maybe (After word is)) ts _ r a.2 (after word ts, eaten word ts g.0, sound _ a.0 a.1)
    | inr g ↦ given (Maybe (After word is)) ts _ r g.1 (sym (not_eaten word ts g.0))
  ]

  -- {between x}, by the same loop
  after_from_sound : (between : Kind) (n : ℕ) (found : List A) (ts : List Lexeme) (r : List A × List Lexeme) → many_from (sees between) (behind item) n found ts ≡ Ok r → (more : List A) × (r.0 ≡ found ++ more) × EachAfter between is more ts r.1
  after_from_sound between = many_from_sound (After between is) (behind item) (sees between) (λ us q g h. (next us, taken between us g, sound (next us) q h))

  pub more_after_sound : (between : Kind) → Sound (EachAfter between is) (more_after between item [])
  unfolding more_after more_of
  more_after_sound between ts r h =
      let m = after_from_sound between (length ts) [] ts r h in
      subst (λ l. EachAfter between is l ts r.1) (sym m.1) m.2

  pub listed_sound : (between : Kind) → Sound (Listed between is) (listed between item)
  unfolding listed more_after more_of
  listed_sound between ts r h =
      let a = bind_ok (item ts) _ r h in
      let m = after_from_sound between (length a.0.1) (a.0.0 ∷ []) a.0.1 r a.2 in
      subst (λ l. Listed between is l ts r.1) (sym m.1) (a.0.1, sound ts a.0 a.1, m.2)

  -- the list that is enclosed is not empty
  enclosed_list : (between : Kind) (xs : List A) (a b c d : List Lexeme) → Is k.LeftParenthesis a b → Listed between is xs b c → Is k.RightParenthesis c d → Enclosed k.LeftParenthesis between k.RightParenthesis is xs a d
  enclosed_list between [] a b c d o h e = absurd h
  enclosed_list between (x ∷ xs) a b c d o h e = (b, o, (h.0, h.1, (c, h.2, e)))

  pub enclosed_sound : (between : Kind) → Sound (Enclosed k.LeftParenthesis between k.RightParenthesis is) (enclosed between item)
  unfolding enclosed
  enclosed_sound between ts r h = elim (branch_ok (sees k.LeftParenthesis ts) _ _ _ r h) [
    | inl g ↦
        let a = bind_ok (listed between item (after k.LeftParenthesis ts)) _ r g.1 in
        let b = bind_ok (expect k.RightParenthesis a.0.1) _ r a.2 in
        given (Enclosed k.LeftParenthesis between k.RightParenthesis is) ts _ r b.2
        (enclosed_list between a.0.0 ts _ a.0.1 b.0.1 (eaten k.LeftParenthesis ts g.0) (listed_sound between _ a.0 a.1) (expected k.RightParenthesis a.0.1 b.0 b.1))
    | inr g ↦ given (Enclosed k.LeftParenthesis between k.RightParenthesis is) ts _ r g.1 (sym (not_eaten k.LeftParenthesis ts g.0))
  ]
