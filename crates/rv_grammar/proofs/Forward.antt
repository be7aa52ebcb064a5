-- The steps that every rule is made of, read forwards: what a rule answers where the grammar says what is there.
use Rattle.std.proofs.Common.{◌≡◌, ◌<◌, ◌≤◌, ℕ, zero, suc, Bool, true, false, cond, List, [], ◌∷◌, ◌++◌, length, Option, Some, None, Ok, Err, refl, sym, ap, ◌∙◌, subst, arith, append_assoc, append-nil}
use denote.Enum.Bare.{true_same}
use Rattle.rv_lex.specs.declared.kind.Kind.{Kind}
use Rattle.rv_lex.specs.declared.kind.Kind.TheVariants as k
use Rattle.rv_lex.specs.contracts.kind.Kind.{the_type}
use Rattle.rv_lex.specs.Lexes.{Lexeme}
use Rattle.rv_tree.specs.Names.{Identifier}
use Rattle.rv_tree.specs.Phrases.{Phrase, Is, IsAt, Nothing, Flag, Maybe, Each, AtLeastOne, After, EachAfter, Listed, Enclosed}
use Rattle.rv_tree.specs.NameGrammar.{IsIdentifier}
use Rattle.rv_grammar.specs.Reading.{unexpected, too_deep, Outcome, Parser, and_then, same_kind, sees, next, after, eat, place, text, expect, many_from, more_of, many, at_least_one, behind, more_after, listed, enclosed, optional, optional_after}
use Rattle.rv_grammar.specs.NameRules.{identifier}

-- what a rule answers where this is what it is to read
abbrev pub Answers : {A : Type 0} → Outcome A → A → List Lexeme → Type 0
Answers (Ok r) x rest = r ≡ (x, rest)
Answers (Err too_deep) x rest = Unit {0}
Answers (Err unexpected) x rest = ⊥

pub answers_then : {A B : Type 0} (r : Outcome A) (f : A → Parser B) (x : A) (mid : List Lexeme) (y : B) (rest : List Lexeme) → Answers r x mid → Answers (f x mid) y rest → Answers (and_then r f) y rest
answers_then {A = A} (Ok p) f x mid y rest h g = subst (λ (q : A × List Lexeme). Answers (f q.0 q.1) y rest) (sym h) g
answers_then (Err too_deep) f x mid y rest h g = tt
answers_then (Err unexpected) f x mid y rest h g = absurd h

pub at_true : {A : Type 0} (b : Bool) (p q : Parser A) (i : List Lexeme) (x : A) (rest : List Lexeme) → b ≡ true → Answers (p i) x rest → Answers (cond b p q i) x rest
at_true true p q i x rest h g = g
at_true false p q i x rest h g = absurd cc

pub at_false : {A : Type 0} (b : Bool) (p q : Parser A) (i : List Lexeme) (x : A) (rest : List Lexeme) → b ≡ false → Answers (q i) x rest → Answers (cond b p q i) x rest
at_false true p q i x rest h g = absurd cc
at_false false p q i x rest h g = g

-- the same for a choice of outcomes
pub if_true : {A : Type 0} (b : Bool) (p q : Outcome A) (x : A) (rest : List Lexeme) → b ≡ true → Answers p x rest → Answers (cond b p q) x rest
if_true true p q x rest h g = g
if_true false p q x rest h g = absurd cc

pub if_false : {A : Type 0} (b : Bool) (p q : Outcome A) (x : A) (rest : List Lexeme) → b ≡ false → Answers q x rest → Answers (cond b p q) x rest
if_false true p q x rest h g = absurd cc
if_false false p q x rest h g = g

pub same_self : (w : Kind) → same_kind w w ≡ true
unfolding same_kind
same_self w = true_same the_type w w refl

pub sees_it : (what : Kind) (ts a : List Lexeme) → Is what ts a → sees what ts ≡ true
unfolding sees
sees_it what ts a h = rw (h.1, h.2) (same_self what)

pub next_it : (what : Kind) (ts a : List Lexeme) → Is what ts a → next ts ≡ a
unfolding next
next_it what ts a h = rw h.1

pub place_it : (what : Kind) (at : ℕ) (ts a : List Lexeme) → IsAt what at ts a → place ts ≡ at
unfolding place
place_it what at ts a h = rw h.1 h.3

pub after_it : (what : Kind) (ts a : List Lexeme) → Is what ts a → after what ts ≡ a
unfolding after
after_it what ts a h = rw (sees_it what ts a h) (next_it what ts a h)

pub not_after : (what : Kind) (ts : List Lexeme) → sees what ts ≡ false → after what ts ≡ ts
unfolding after
not_after what ts h = rw h

pub is_of : (what : Kind) (at : ℕ) (ts a : List Lexeme) → IsAt what at ts a → Is what ts a
is_of what at ts a h = (h.0, h.1, h.2)

-- a token of another kind
pub not_both : (what unlike : Kind) (ts a : List Lexeme) → Is what ts a → same_kind what unlike ≡ false → sees unlike ts ≡ false
unfolding sees
not_both what unlike ts a h g = rw (h.1, h.2) g

pub at_it : (what : Kind) (at : ℕ) (ts a : List Lexeme) → IsAt what at ts a → Answers (expect what ts) at a
unfolding expect place next
at_it what at ts a h = rw (sees_it what ts a (h.0, h.1, h.2)) (rw (h.1, h.3))

-- behind a word at a place
pub at_then : {B : Type 0} (what : Kind) (at : ℕ) (ts a : List Lexeme) (f : ℕ → Parser B) (y : B) (rest : List Lexeme) → IsAt what at ts a → Answers (f at a) y rest → Answers (and_then (expect what ts) f) y rest
at_then what at ts a f y rest h g = answers_then (expect what ts) f at a y rest (at_it what at ts a h) g

-- behind a word
pub word_then : {B : Type 0} (what : Kind) (ts a : List Lexeme) (p : Parser B) (y : B) (rest : List Lexeme) → Is what ts a → Answers (p a) y rest → Answers (and_then (expect what ts) (λ _. p)) y rest
word_then what ts a p y rest h g = answers_then (expect what ts) (λ _. p) h.0.place a y rest (at_it what h.0.place ts a (h.0, h.1, h.2, refl)) g

-- behind a word that is looked for, where it is there and where it is not
pub eaten_then : {B : Type 0} (what : Kind) (ts a : List Lexeme) (p q : Parser B) (y : B) (rest : List Lexeme) → Is what ts a → Answers (p a) y rest → Answers (and_then (eat what ts) (λ seen. cond seen p q)) y rest
eaten_then what ts a p q y rest h g = at_true (sees what ts) p q (after what ts) y rest (sees_it what ts a h) (rw (after_it what ts a h) g)

pub uneaten_then : {B : Type 0} (what : Kind) (ts : List Lexeme) (p q : Parser B) (y : B) (rest : List Lexeme) → sees what ts ≡ false → Answers (q ts) y rest → Answers (and_then (eat what ts) (λ seen. cond seen p q)) y rest
uneaten_then what ts p q y rest h g = at_false (sees what ts) p q (after what ts) y rest h (rw (not_after what ts h) g)

-- a flag, where what follows it is no such word
pub flag_seen : (what : Kind) (flag : Bool) (ts a : List Lexeme) → Flag what flag ts a → sees what a ≡ false → sees what ts ≡ flag
flag_seen what true ts a h apart = sees_it what ts a h
flag_seen what false ts a h apart = ap (λ us. sees what us) h ∙ apart

pub flag_after : (what : Kind) (flag : Bool) (ts a : List Lexeme) → Flag what flag ts a → sees what a ≡ false → after what ts ≡ a
flag_after what true ts a h apart = after_it what ts a h
flag_after what false ts a h apart = not_after what ts (ap (λ us. sees what us) h ∙ apart) ∙ h

pub identifier_it : (i : Identifier) (ts a : List Lexeme) → IsIdentifier i ts a → Answers (identifier ts) i a
unfolding identifier place next text
identifier_it i ts a h = rw (sees_it k.Identifier ts a (h.0, h.1, h.2)) (rw (h.1, h.3, h.4))

-- Phrases use tokens up.
abbrev pub Shorter : List Lexeme → List Lexeme → Type 0
Shorter old new = length new < length old

abbrev pub NotLonger : List Lexeme → List Lexeme → Type 0
NotLonger old new = length new ≤ length old

pub is_shorter : (what : Kind) (old new : List Lexeme) → Is what old new → Shorter old new
is_shorter what old new h = omega (arith, ap length h.1)

pub at_shorter : (what : Kind) (at : ℕ) (old new : List Lexeme) → IsAt what at old new → Shorter old new
at_shorter what at old new h = omega (arith, ap length h.1)

pub identifier_shorter : (i : Identifier) (old new : List Lexeme) → IsIdentifier i old new → Shorter old new
identifier_shorter i old new h = omega (arith, ap length h.1)

pub nothing_shorter : (old new : List Lexeme) → Nothing old new → NotLonger old new
nothing_shorter old new h = omega (arith, ap length h)

pub flag_shorter : (what : Kind) (flag : Bool) (old new : List Lexeme) → Flag what flag old new → NotLonger old new
flag_shorter what true old new h = omega (arith, is_shorter what old new h)
flag_shorter what false old new h = nothing_shorter old new h

module _ {A : Type 0} (is : A → Phrase) (shorter : (a : A) (old new : List Lexeme) → is a old new → Shorter old new) where
  pub maybe_shorter : (o : Option A) (old new : List Lexeme) → Maybe is o old new → NotLonger old new
  maybe_shorter None old new h = nothing_shorter old new h
  maybe_shorter (Some a) old new h = omega (arith, shorter a old new h)

  pub each_shorter : (xs : List A) (old new : List Lexeme) → Each is xs old new → NotLonger old new
  each_shorter [] old new h = nothing_shorter old new h
  each_shorter (x ∷ xs) old new h = omega (arith, shorter x old h.0 h.1, each_shorter xs h.0 new h.2)

  pub after_shorter : (between : Kind) (a : A) (old new : List Lexeme) → After between is a old new → Shorter old new
  after_shorter between a old new h = omega (arith, is_shorter between old h.0 h.1, shorter a h.0 new h.2)

pub each_after_shorter : {A : Type 0} (is : A → Phrase) → ((a : A) (old new : List Lexeme) → is a old new → Shorter old new) → (between : Kind) (xs : List A) (old new : List Lexeme) → EachAfter between is xs old new → NotLonger old new
each_after_shorter is shorter between xs old new h = each_shorter (After between is) (after_shorter is shorter between) xs old new h

pub listed_shorter : {A : Type 0} (is : A → Phrase) → ((a : A) (old new : List Lexeme) → is a old new → Shorter old new) → (between : Kind) (xs : List A) (old new : List Lexeme) → Listed between is xs old new → Shorter old new
listed_shorter is shorter between [] old new h = absurd h
listed_shorter is shorter between (x ∷ xs) old new h = omega (arith, shorter x old h.0 h.1, each_after_shorter is shorter between xs h.0 new h.2)

pub enclosed_shorter : {A : Type 0} (is : A → Phrase) → ((a : A) (old new : List Lexeme) → is a old new → Shorter old new) → (between : Kind) (xs : List A) (old new : List Lexeme) → Enclosed k.LeftParenthesis between k.RightParenthesis is xs old new → NotLonger old new
enclosed_shorter is shorter between [] old new h = nothing_shorter old new h
enclosed_shorter is shorter between (x ∷ xs) old new h = omega (arith, is_shorter _ old h.0 h.1, shorter x h.0 h.2.0 h.2.1, each_after_shorter is shorter between xs h.2.0 h.2.2.0 h.2.2.1, is_shorter _ h.2.2.0 new h.2.2.2)

-- what is there is read, where what follows does not go on with it
abbrev pub Complete : {A : Type 0} → (A → Phrase) → Parser A → (List Lexeme → Type 0) → Type 0
Complete {A = A} is p follows = (a : A) (ts rest : List Lexeme) → is a ts rest → follows rest → Answers (p ts) a rest

module _ {A : Type 0} (is : A → Phrase) (item : Parser A) (follows : List Lexeme → Type 0) (complete : Complete is item follows) (shorter : (a : A) (old new : List Lexeme) → is a old new → Shorter old new) where
  module _ (begins : List Lexeme → Bool) (starts : (a : A) (ts rest : List Lexeme) → is a ts rest → begins ts ≡ true) (starts_follow : (a : A) (ts rest : List Lexeme) → is a ts rest → follows ts) where
    each_follows : (xs : List A) (ts rest : List Lexeme) → Each is xs ts rest → follows rest → follows ts
    each_follows [] ts rest h g = subst follows (sym h) g
    each_follows (x ∷ xs) ts rest h g = starts_follow x ts h.0 h.1

    many_from_it : (xs : List A) (n : ℕ) (found : List A) (ts rest : List Lexeme) → length ts ≤ n → Each is xs ts rest → begins rest ≡ false → follows rest → Answers (many_from begins item n found ts) (found ++ xs) rest
    unfolding many_from
    many_from_it [] zero found ts rest enough h ends g = rw (append-nil found) (ap (λ us. (found, us)) h)
    many_from_it [] (suc n) found ts rest enough h ends g =
        if_false (begins ts) _ _ _ _ (ap begins h ∙ ends) (rw (append-nil found) (ap (λ us. (found, us)) h))
    many_from_it (x ∷ xs) zero found ts rest enough h ends g = absurd (omega (arith, shorter x ts h.0 h.1))
    many_from_it (x ∷ xs) (suc n) found ts rest enough h ends g =
        if_true (begins ts) _ _ _ _ (starts x ts h.0 h.1)
        (answers_then (item ts) _ x h.0 _ _ (complete x ts h.0 h.1 (each_follows xs h.0 rest h.2 g))
        (subst (λ l. Answers (many_from begins item n (found ++ x ∷ []) h.0) l rest) (append_assoc found (x ∷ []) xs)
        (many_from_it xs n (found ++ x ∷ []) h.0 rest (omega (arith, shorter x ts h.0 h.1)) h.2 ends g)))

    pub many_it : (xs : List A) (ts rest : List Lexeme) → Each is xs ts rest → begins rest ≡ false → follows rest → Answers (many begins item ts) xs rest
    unfolding many more_of
    many_it xs ts rest h ends g = many_from_it xs (length ts) [] ts rest (omega arith) h ends g

    pub at_least_one_it : (xs : List A) (ts rest : List Lexeme) → AtLeastOne is xs ts rest → begins rest ≡ false → follows rest → Answers (at_least_one begins item ts) xs rest
    unfolding at_least_one more_of
    at_least_one_it [] ts rest h ends g = absurd h
    at_least_one_it (x ∷ xs) ts rest h ends g =
        answers_then (item ts) _ x h.0 _ _ (complete x ts h.0 h.1 (each_follows xs h.0 rest h.2 g))
        (many_from_it xs (length h.0) (x ∷ []) h.0 rest (omega arith) h.2 ends g)

    pub optional_it : (o : Option A) (ts rest : List Lexeme) → Maybe is o ts rest → begins rest ≡ false → follows rest → Answers (optional begins item ts) o rest
    unfolding optional
    optional_it None ts rest h ends g = if_false (begins ts) _ _ _ _ (ap begins h ∙ ends) (ap (λ us. (None, us)) h)
    optional_it (Some a) ts rest h ends g =
        if_true (begins ts) _ _ _ _ (starts a ts rest h) (answers_then (item ts) _ a rest _ _ (complete a ts rest h g) refl)

module _ {A : Type 0} (is : A → Phrase) (item : Parser A) (follows : List Lexeme → Type 0) (complete : Complete is item follows) (shorter : (a : A) (old new : List Lexeme) → is a old new → Shorter old new) where
  pub optional_after_it : (word : Kind) (o : Option A) (ts rest : List Lexeme) → Maybe (After word is) o ts rest → sees word rest ≡ false → follows rest → Answers (optional_after word item ts) o rest
  unfolding optional_after
  optional_after_it word None ts rest h ends g = uneaten_then word ts _ _ _ _ (ap (λ us. sees word us) h ∙ ends) (ap (λ us. (None, us)) h)
  optional_after_it word (Some a) ts rest h ends g = eaten_then word ts h.0 _ _ _ _ h.1 (answers_then (item h.0) _ a rest _ _ (complete a h.0 rest h.2 g) refl)

  module _ (between : Kind) (between_follows : (ts rest : List Lexeme) → Is between ts rest → follows ts) where
    after_follows : (xs : List A) (ts rest : List Lexeme) → EachAfter between is xs ts rest → follows rest → follows ts
    after_follows [] ts rest h g = subst follows (sym h) g
    after_follows (x ∷ xs) ts rest h g = between_follows ts h.1.0 h.1.1

    behind_it : Complete (After between is) (behind item) follows
    behind_it x ts rest h g = rw (next_it between ts h.0 h.1) (complete x h.0 rest h.2 g)

    after_from_it : (xs : List A) (n : ℕ) (found : List A) (ts rest : List Lexeme) → length ts ≤ n → EachAfter between is xs ts rest → sees between rest ≡ false → follows rest → Answers (many_from (sees between) (behind item) n found ts) (found ++ xs) rest
    after_from_it = many_from_it (After between is) (behind item) follows behind_it (after_shorter is shorter between) (sees between) (λ x us vs h. sees_it between us h.0 h.1) (λ x us vs h. between_follows us h.0 h.1)

    pub more_after_it : (xs : List A) (ts rest : List Lexeme) → EachAfter between is xs ts rest → sees between rest ≡ false → follows rest → Answers (more_after between item [] ts) xs rest
    unfolding more_after more_of
    more_after_it xs ts rest h ends g = after_from_it xs (length ts) [] ts rest (omega arith) h ends g

    pub listed_it : (xs : List A) (ts rest : List Lexeme) → Listed between is xs ts rest → sees between rest ≡ false → follows rest → Answers (listed between item ts) xs rest
    unfolding listed more_after more_of
    listed_it [] ts rest h ends g = absurd h
    listed_it (x ∷ xs) ts rest h ends g =
        answers_then (item ts) _ x h.0 _ _ (complete x ts h.0 h.1 (after_follows xs h.0 rest h.2 g))
        (after_from_it xs (length h.0) (x ∷ []) h.0 rest (omega arith) h.2 ends g)

    pub enclosed_it : same_kind k.RightParenthesis between ≡ false → ((ts rest : List Lexeme) → Is k.RightParenthesis ts rest → follows ts) → (xs : List A) (ts rest : List Lexeme) → Enclosed k.LeftParenthesis between k.RightParenthesis is xs ts rest → sees k.LeftParenthesis rest ≡ false → Answers (enclosed between item ts) xs rest
    unfolding enclosed
    enclosed_it apart closes [] ts rest h ends = uneaten_then k.LeftParenthesis ts _ _ _ _ (ap (λ us. sees k.LeftParenthesis us) h ∙ ends) (ap (λ us. ([], us)) h)
    enclosed_it apart closes (x ∷ xs) ts rest h ends =
        let close = h.2.2.2 in
        eaten_then k.LeftParenthesis ts h.0 _ _ _ _ h.1
        (answers_then (listed between item h.0) _ (x ∷ xs) h.2.2.0 _ _ (listed_it (x ∷ xs) h.0 h.2.2.0 (h.2.0, h.2.1, h.2.2.1) (not_both k.RightParenthesis between h.2.2.0 rest close apart) (closes h.2.2.0 rest close))
        (word_then k.RightParenthesis h.2.2.0 rest _ _ _ close refl))
