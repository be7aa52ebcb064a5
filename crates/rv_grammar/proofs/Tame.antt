-- What a rule does with the words: it goes on over some of them, or finds them nested too deep.
use Rattle.std.proofs.Common.{◌≡◌, ℕ, zero, suc, Bool, true, false, cond, List, [], ◌∷◌, ◌++◌, length, Some, None, Ok, Err, refl, sym, subst}
use Rattle.rv_lex.specs.declared.kind.Kind.{Kind}
use Rattle.rv_lex.specs.declared.kind.Kind.TheVariants as k
use Rattle.rv_lex.specs.Lexes.{Lexeme}
use Rattle.rv_tree.specs.Phrases.{Is}
use Rattle.rv_grammar.specs.Reading.{unexpected, too_deep, Outcome, Parser, and_then, ◌>>=◌, pure, refuse, by_kind, sees, next, after, eat, expect, many_from, more_of, many, at_least_one, behind, more_after, listed, optional, optional_after}
use Rattle.rv_grammar.specs.NameRules.{identifier, name, end_name}
use Rattle.rv_grammar.specs.Nesting.{opens, closes}
use Rattle.rv_grammar.proofs.Steps.{eaten, not_eaten, taken}

-- from some words to others, and what is told of words that nest too deep
pub record Walk : Type 1 where
  pub via : List Lexeme → List Lexeme → Type 0
  pub fails : List Lexeme → Type 0
  pub same : (a : List Lexeme) → via a a
  pub on : (a b c : List Lexeme) → via a b → via b c → via a c
  pub back : (a b : List Lexeme) → via a b → fails b → fails a
  pub word : (what : Kind) (a b : List Lexeme) → opens what ≡ 0 → closes what ≡ 0 → Is what a b → via a b

-- an outcome of a rule on these words
unfoldable pub Tamed : {A : Type 0} → Walk → List Lexeme → Outcome A → Type 0
Tamed w ts (Ok r) = w.via ts r.1
Tamed w ts (Err too_deep) = w.fails ts
Tamed w ts (Err unexpected) = Unit {0}

pub record Tame {A : Type 0} (w : Walk) (p : Parser A) : Type 0 where
  pub at : (ts : List Lexeme) → Tamed w ts (p ts)

-- where a rule ends
pub went : {A : Type 0} (w : Walk) (p : Parser A) (ts : List Lexeme) (r : A × List Lexeme) → Tame w p → p ts ≡ Ok r → w.via ts r.1
unfolding Tamed
went {A = A} w p ts r h e = let P : Outcome A → Type 0 = λ o. Tamed w ts o in subst P e (h.at ts)

-- what is told of words that nest too deep
pub told : {A : Type 0} (w : Walk) (p : Parser A) (ts : List Lexeme) → Tame w p → p ts ≡ Err too_deep → w.fails ts
unfolding Tamed
told {A = A} w p ts h e = let P : Outcome A → Type 0 = λ o. Tamed w ts o in subst P e (h.at ts)

-- what one walk tells of a rule, as another tells it
module _ (v w : Walk) (via : (a b : List Lexeme) → v.via a b → w.via a b) (fails : (ts : List Lexeme) → v.fails ts → w.fails ts) where
  retold : {A : Type 0} (ts : List Lexeme) (r : Outcome A) → Tamed v ts r → Tamed w ts r
  unfolding Tamed
  retold ts (Ok r) h = via ts r.1 h
  retold ts (Err too_deep) h = fails ts h
  retold ts (Err unexpected) h = tt

  pub tame_too : {A : Type 0} (p : Parser A) → Tame v p → Tame w p
  tame_too p h = record { at = λ ts. retold ts (p ts) (h.at ts) }

pub from_there : {A : Type 0} (w : Walk) (ts us : List Lexeme) (r : Outcome A) → w.via ts us → Tamed w us r → Tamed w ts r
unfolding Tamed
from_there w ts us (Ok r) v h = w.on ts us r.1 v h
from_there w ts us (Err too_deep) v h = w.back ts us v h
from_there w ts us (Err unexpected) v h = tt

pub then_tamed : {A B : Type 0} (w : Walk) (ts : List Lexeme) (r : Outcome A) (f : A → Parser B) → Tamed w ts r → ((a : A) → Tame w (f a)) → Tamed w ts (and_then r f)
unfolding Tamed
then_tamed w ts (Ok p) f h g = from_there w ts p.1 (f p.0 p.1) h ((g p.0).at p.1)
then_tamed w ts (Err too_deep) f h g = h
then_tamed w ts (Err unexpected) f h g = tt

infixr 10 ◌⊳◌
pub ◌⊳◌ : {A B : Type 0} {w : Walk} {p : Parser A} {f : A → Parser B} → Tame w p → ((a : A) → Tame w (f a)) → Tame w (p >>= f)
◌⊳◌ {w = w} {p = p} {f = f} h g = record { at = λ ts. then_tamed w ts (p ts) f (h.at ts) g }

module _ (w : Walk) where
  pub pure_tame : {A : Type 0} (a : A) → Tame w (pure a)
  unfolding Tamed
  pure_tame a = record { at = λ ts. w.same ts }

  pub refuse_tame : (A : Type 0) → Tame {A = A} w refuse
  unfolding Tamed
  refuse_tame A = record { at = λ ts. tt }

  pub here_tamed : {A : Type 0} (a : A) (ts : List Lexeme) → Tamed {A = A} w ts (Ok (a, ts))
  unfolding Tamed
  here_tamed a ts = w.same ts

  pub word_tamed : {A : Type 0} (what : Kind) (a : A) (ts us : List Lexeme) → opens what ≡ 0 → closes what ≡ 0 → Is what ts us → Tamed {A = A} w ts (Ok (a, us))
  unfolding Tamed
  word_tamed what a ts us o c h = w.word what ts us o c h

  pub if_tamed : {A : Type 0} (b : Bool) (x y : Outcome A) (ts : List Lexeme) → (b ≡ true → Tamed w ts x) → (b ≡ false → Tamed w ts y) → Tamed w ts (cond b x y)
  if_tamed true x y ts h g = h refl
  if_tamed false x y ts h g = g refl

  pub if_tame : {A : Type 0} (b : Bool) (p q : Parser A) → Tame w p → Tame w q → Tame w (cond b p q)
  if_tame true p q h g = h
  if_tame false p q h g = g

  -- one rule where the words begin so, else another
  pub choice_tame : {A : Type 0} (begins : List Lexeme → Bool) (p q : Parser A) → Tame w p → Tame w q → Tame w (λ ts. cond (begins ts) (p ts) (q ts))
  choice_tame begins p q h g = record { at = λ ts. if_tamed (begins ts) _ _ ts (λ _. h.at ts) (λ _. g.at ts) }

  pub expect_tame : (what : Kind) → opens what ≡ 0 → closes what ≡ 0 → Tame w (expect what)
  unfolding expect Tamed
  expect_tame what o c = record { at = λ ts. if_tamed (sees what ts) _ _ ts (λ g. w.word what ts (next ts) o c (taken what ts g)) (λ g. tt) }

  pub after_via : (what : Kind) (ts : List Lexeme) → opens what ≡ 0 → closes what ≡ 0 → w.via ts (after what ts)
  after_via what ts o c = by_test (sees what ts) refl
    where
      by_test : (b : Bool) → sees what ts ≡ b → w.via ts (after what ts)
      by_test true g = w.word what ts (after what ts) o c (eaten what ts g)
      by_test false g = subst (λ us. w.via ts us) (sym (not_eaten what ts g)) (w.same ts)

  pub eat_tame : (what : Kind) → opens what ≡ 0 → closes what ≡ 0 → Tame w (eat what)
  unfolding Tamed
  eat_tame what o c = record { at = λ ts. after_via what ts o c }

  pub identifier_tame : Tame w identifier
  unfolding identifier Tamed
  identifier_tame = record { at = λ ts. if_tamed (sees k.Identifier ts) _ _ ts (λ g. w.word k.Identifier ts (next ts) refl refl (taken k.Identifier ts g)) (λ g. tt) }

  pub by_kind_tame : {A : Type 0} (f : Kind → Parser A) → ((what : Kind) → Tame w (f what)) → Tame w (by_kind f)
  unfolding Tamed
  by_kind_tame f h = record { at = λ ts. by_list ts }
    where
      by_list : (ts : List Lexeme) → Tamed w ts (by_kind f ts)
      by_list [] = tt
      by_list (t ∷ ts) = (h t.kind).at (t ∷ ts)

  -- {x}, where a rule goes on over what begins so
  module _ {A : Type 0} (item : Parser A) (begins : List Lexeme → Bool) (item_tamed : (ts : List Lexeme) → begins ts ≡ true → Tamed w ts (item ts)) where
    many_from_tame : (n : ℕ) (found : List A) → Tame w (many_from begins item n found)
    unfolding many_from
    many_from_tame zero found = pure_tame found
    many_from_tame (suc n) found = record {
      at = λ ts. if_tamed (begins ts) _ _ ts
          (λ g. then_tamed w ts (item ts) _ (item_tamed ts g) (λ a. many_from_tame n (found ++ a ∷ []))) (λ g. here_tamed found ts);
    }

  module _ {A : Type 0} (item : Parser A) (item_tame : Tame w item) where
    pub more_of_tame : (begins : List Lexeme → Bool) (found : List A) → Tame w (more_of begins item found)
    unfolding more_of
    more_of_tame begins found = record { at = λ ts. (many_from_tame item begins (λ us g. item_tame.at us) (length ts) found).at ts }

    pub many_tame : (begins : List Lexeme → Bool) → Tame w (many begins item)
    unfolding many
    many_tame begins = more_of_tame begins []

    pub at_least_one_tame : (begins : List Lexeme → Bool) → Tame w (at_least_one begins item)
    unfolding at_least_one
    at_least_one_tame begins = item_tame ⊳ (λ a. more_of_tame begins (a ∷ []))

    pub optional_tame : (begins : List Lexeme → Bool) → Tame w (optional begins item)
    unfolding optional
    optional_tame begins = record {
      at = λ ts. if_tamed (begins ts) _ _ ts
          (λ g. then_tamed w ts (item ts) _ (item_tame.at ts) (λ a. pure_tame (Some a))) (λ g. here_tamed None ts);
    }

    pub optional_after_tame : (what : Kind) → opens what ≡ 0 → closes what ≡ 0 → Tame w (optional_after what item)
    unfolding optional_after
    optional_after_tame what o c = eat_tame what o c ⊳ (λ seen. if_tame seen _ _ (item_tame ⊳ (λ a. pure_tame (Some a))) (pure_tame None))

    -- {between x}, by the same loop
    behind_tamed : (between : Kind) → opens between ≡ 0 → closes between ≡ 0 → (ts : List Lexeme) → sees between ts ≡ true → Tamed w ts (item (next ts))
    behind_tamed between o c ts g = from_there w ts (next ts) (item (next ts)) (w.word between ts (next ts) o c (taken between ts g)) (item_tame.at (next ts))

    pub more_after_tame : (between : Kind) (found : List A) → opens between ≡ 0 → closes between ≡ 0 → Tame w (more_after between item found)
    unfolding more_after more_of
    more_after_tame between found o c = record { at = λ ts. (many_from_tame (behind item) (sees between) (behind_tamed between o c) (length ts) found).at ts }

    pub listed_tame : (between : Kind) → opens between ≡ 0 → closes between ≡ 0 → Tame w (listed between item)
    unfolding listed
    listed_tame between o c = item_tame ⊳ (λ a. more_after_tame between (a ∷ []) o c)

  pub name_tame : Tame w name
  unfolding name
  name_tame = identifier_tame ⊳ (λ first. more_after_tame identifier identifier_tame k.Dot [] refl refl ⊳ (λ more. pure_tame _))

  pub end_name_tame : Tame w end_name
  unfolding end_name
  end_name_tame = expect_tame k.End refl refl ⊳ (λ _. optional_tame identifier identifier_tame (sees k.Identifier) ⊳ (λ n. expect_tame k.Semicolon refl refl ⊳ (λ _. pure_tame n)))
