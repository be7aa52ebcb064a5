-- Printing, phrase by phrase.
use Rattle.std.proofs.Common.{◌≡◌, ℕ, Bool, true, false, List, [], ◌∷◌, ◌++◌, Option, Some, None, map, refl, sym, ap, ◌∙◌, subst, append_assoc}
use Rattle.std.proofs.lemmas.List.{append-nil}
use Rattle.rv_lex.specs.declared.kind.Kind.{Kind}
use Rattle.rv_lex.specs.Kinds.{spelling}
use Rattle.rv_lex.specs.Lexes.{Lexeme}
use Rattle.rv_lex.specs.Spaced.{Spelled, IsSpelled, AreSpelled}
use Rattle.rv_lex.specs.Words.{IsWord}
use Rattle.rv_lex.proofs.Spellings.{has_spelling, spelling_is}
use Rattle.rv_tree.specs.Phrases.{Phrase, ◌⨾◌, Is, IsAt, Nothing, Never, When, Flag, Maybe, Each, After, Listed, Enclosed}
use Rattle.rv_tree.specs.Onto.{Onto, ◌▷◌, nothing_onto, kind_onto, flag_onto, maybe_onto, each_onto, after_onto, listed_onto, enclosed_onto}

-- each of the tokens is a word
abbrev pub AreWords : List Lexeme → Type 0
AreWords [] = Unit {0}
AreWords (t ∷ ts) = IsWord t.kind t.text × AreWords ts

abbrev pub spelled : Lexeme → Spelled
spelled t = record { kind = t.kind; text = t.text }

-- the words with a space before each
abbrev pub words_text : List Lexeme → List ℕ
words_text [] = []
words_text (t ∷ ts) = 32 ∷ (t.text ++ words_text ts)

-- what is put behind the text is words that are the phrase
pub record Written (p : Phrase) (f : Onto) : Type 0 where
  pub words : List Lexeme
  pub whole : (rest : List Lexeme) → p (words ++ rest) rest
  pub spell : AreSpelled (map spelled words)
  pub text : (out : List ℕ) → f out ≡ out ++ words_text words

-- where some words are the phrase, so is what is printed
pub record Prints (p : Phrase) (f : Onto) : Type 0 where
  pub prints : (old new : List Lexeme) → p old new → AreWords old → AreWords new × Written p f

words_text-append : (ts us : List Lexeme) → words_text (ts ++ us) ≡ words_text ts ++ words_text us
words_text-append [] us = refl
words_text-append (t ∷ ts) us = ap (λ l. 32 ∷ l) (ap (λ l. t.text ++ l) (words_text-append ts us) ∙ sym (append_assoc t.text (words_text ts) (words_text us)))

spell-append : (ts us : List Lexeme) → AreSpelled (map spelled ts) → AreSpelled (map spelled us) → AreSpelled (map spelled (ts ++ us))
spell-append [] us h g = g
spell-append (t ∷ ts) us h g = (h.0, spell-append ts us h.1 g)

pub nothing_prints : Prints Nothing nothing_onto
nothing_prints = record {
  prints = λ old new h good. (
    subst AreWords h good,
    record { words = []; whole = λ rest. refl; spell = tt; text = λ out. sym (append-nil out) },
  );
}

pub never_prints : (f : Onto) → Prints Never f
never_prints f = record { prints = λ old new h good. absurd h }

abbrev pub one : Kind → List ℕ → ℕ → Lexeme
one kind text at = record { kind = kind; text = text; place = at }

one_text : (t : Lexeme) (out : List ℕ) → out ++ 32 ∷ t.text ≡ out ++ words_text (t ∷ [])
one_text t out = ap (λ l. out ++ 32 ∷ l) (sym (append-nil t.text))

behind : (t : Lexeme) (old new : List Lexeme) → old ≡ t ∷ new → AreWords old → IsWord t.kind t.text × AreWords new
behind t old new e good = subst AreWords e good

-- a phrase of one word, told by the word that stands there: what is printed is spelled, and is the phrase too
pub word_prints : (p : Phrase) (f : Onto) (w : Lexeme) → ((out : List ℕ) → f out ≡ out ++ 32 ∷ w.text) → ((old new : List Lexeme) → p old new → (t : Lexeme) × (old ≡ t ∷ new) × (IsWord t.kind t.text → IsSpelled (spelled w) × ((rest : List Lexeme) → p (w ∷ rest) rest))) → Prints p f
word_prints p f w text word = record {
  prints = λ old new h good.
      let s = word old new h in
      let b = behind s.0 old new s.1 good in
      let g = s.2 b.0 in
      (b.1, record { words = w ∷ []; whole = g.1; spell = (g.0, tt); text = λ out. text out ∙ one_text w out });
}

pub is_prints : (kind : Kind) → has_spelling kind ≡ true → Prints (Is kind) (kind_onto kind)
is_prints kind some =
    let w = one kind (spelling kind) 0 in
    word_prints (Is kind) (kind_onto kind) w (λ out. refl) (λ old new h. (h.0, h.1, λ _. (spelling_is kind some, λ rest. (w, refl, refl))))

pub is_at_prints : (kind : Kind) (at : ℕ) → has_spelling kind ≡ true → Prints (IsAt kind at) (kind_onto kind)
is_at_prints kind at some =
    let w = one kind (spelling kind) at in
    word_prints (IsAt kind at) (kind_onto kind) w (λ out. refl) (λ old new h. (h.0, h.1, λ _. (spelling_is kind some, λ rest. (w, refl, refl, refl))))

seq_written : (p q : Phrase) (f g : Onto) → Written p f → Written q g → Written (p ⨾ q) (f ▷ g)
seq_written p q f g a b = record {
  words = a.words ++ b.words;
  whole = λ rest. (b.words ++ rest, subst (λ (l : List Lexeme). p l (b.words ++ rest)) (sym (append_assoc a.words b.words rest)) (a.whole (b.words ++ rest)), b.whole rest);
  spell = spell-append a.words b.words a.spell b.spell;
  text = λ out. b.text (f out) ∙ ap (λ l. l ++ words_text b.words) (a.text out) ∙ append_assoc out (words_text a.words) (words_text b.words) ∙ ap (λ l. out ++ l) (sym (words_text-append a.words b.words));
}

pub seq_prints : {p q : Phrase} {f g : Onto} → Prints p f → Prints q g → Prints (p ⨾ q) (f ▷ g)
seq_prints {p} {q} {f} {g} a b = record {
  prints = λ old new h good.
      let first = a.prints old h.0 h.1 good in
      let second = b.prints h.0 new h.2 first.0 in
      (second.0, seq_written p q f g first.1 second.1);
}

pub when_prints : {p : Phrase} {f : Onto} (condition : Type 0) → Prints p f → Prints (When condition p) f
when_prints {p} {f} condition a = record {
  prints = λ old new h good.
      let w = a.prints old new h.1 good in
      (w.0, record { words = w.1.words; whole = λ rest. (h.0, w.1.whole rest); spell = w.1.spell; text = w.1.text });
}

pub flag_prints : (kind : Kind) (flag : Bool) → has_spelling kind ≡ true → Prints (Flag kind flag) (flag_onto kind flag)
flag_prints kind true some = is_prints kind some
flag_prints kind false some = nothing_prints

pub maybe_prints : {A : Type 0} (p : A → Phrase) (f : A → Onto) → ((a : A) → Prints (p a) (f a)) → (o : Option A) → Prints (Maybe p o) (maybe_onto f o)
maybe_prints p f each None = nothing_prints
maybe_prints p f each (Some a) = each a

pub each_prints : {A : Type 0} (p : A → Phrase) (f : A → Onto) → ((a : A) → Prints (p a) (f a)) → (xs : List A) → Prints (Each p xs) (each_onto f xs)
each_prints p f each [] = nothing_prints
each_prints p f each (a ∷ more) = seq_prints {p = p a} {q = Each p more} {f = f a} {g = each_onto f more} (each a) (each_prints p f each more)

pub after_prints : {A : Type 0} (between : Kind) (p : A → Phrase) (f : A → Onto) → has_spelling between ≡ true → ((a : A) → Prints (p a) (f a)) → (a : A) → Prints (After between p a) (after_onto between f a)
after_prints between p f some each a = seq_prints (is_prints between some) (each a)

pub listed_prints : {A : Type 0} (between : Kind) (p : A → Phrase) (f : A → Onto) → has_spelling between ≡ true → ((a : A) → Prints (p a) (f a)) → (xs : List A) → Prints (Listed between p xs) (listed_onto between f xs)
listed_prints between p f some each [] = never_prints nothing_onto
listed_prints between p f some each (a ∷ more) = seq_prints (each a) (each_prints (After between p) (after_onto between f) (after_prints between p f some each) more)

pub enclosed_prints : {A : Type 0} (opening between closing : Kind) (p : A → Phrase) (f : A → Onto) → has_spelling opening ≡ true → has_spelling between ≡ true → has_spelling closing ≡ true → ((a : A) → Prints (p a) (f a)) → (xs : List A) → Prints (Enclosed opening between closing p xs) (enclosed_onto opening between closing f xs)
enclosed_prints opening between closing p f o b c each [] = nothing_prints
enclosed_prints opening between closing p f o b c each (a ∷ more) =
    seq_prints (is_prints opening o) (seq_prints (each a) (seq_prints (each_prints (After between p) (after_onto between f) (after_prints between p f b each) more) (is_prints closing c)))
