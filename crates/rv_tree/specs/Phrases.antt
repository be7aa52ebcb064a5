-- What the grammar is written with. A phrase relates the tokens where it begins to those where it ends.
use Rattle.std.specs.Prelude.{◌≡◌, ℕ, Bool, true, false, List, [], ◌∷◌, Option, Some, None}
use Rattle.rv_lex.specs.declared.kind.Kind.{Kind}
use Rattle.rv_lex.specs.Lexes.{Lexeme}

abbrev pub Phrase : Type 1
Phrase = List Lexeme → List Lexeme → Type 0

infixr 10 ◌⨾◌
-- the one phrase, and then the other
abbrev pub ◌⨾◌ : Phrase → Phrase → Phrase
(p ⨾ q) old new = (mid : List Lexeme) × p old mid × q mid new

-- one token of a kind
abbrev pub Is : Kind → Phrase
Is kind old new = (t : Lexeme) × (old ≡ t ∷ new) × (t.kind ≡ kind)

-- one token of a kind, at a place
abbrev pub IsAt : Kind → ℕ → Phrase
IsAt kind at old new = (t : Lexeme) × (old ≡ t ∷ new) × (t.kind ≡ kind) × (t.place ≡ at)

-- no token
abbrev pub Nothing : Phrase
Nothing old new = old ≡ new

-- no phrase
abbrev pub Never : Phrase
Never old new = ⊥

-- the phrase, where the condition holds
abbrev pub When : Type 0 → Phrase → Phrase
When condition p old new = condition × p old new

-- [kind], which was written where the flag is true
abbrev pub Flag : Kind → Bool → Phrase
Flag kind true = Is kind
Flag kind false = Nothing

-- [x]
abbrev pub Maybe : {A : Type 0} → (A → Phrase) → Option A → Phrase
Maybe p None = Nothing
Maybe p (Some a) = p a

-- {x}
abbrev pub Each : {A : Type 0} → (A → Phrase) → List A → Phrase
Each p [] = Nothing
Each p (a ∷ more) = p a ⨾ Each p more

-- x {x}
abbrev pub AtLeastOne : {A : Type 0} → (A → Phrase) → List A → Phrase
AtLeastOne p [] = Never
AtLeastOne p (a ∷ more) = p a ⨾ Each p more

-- between x
abbrev pub After : {A : Type 0} → Kind → (A → Phrase) → A → Phrase
After between p a = Is between ⨾ p a

-- {between x}
abbrev pub EachAfter : {A : Type 0} → Kind → (A → Phrase) → List A → Phrase
EachAfter between p = Each (After between p)

-- x {between x}
abbrev pub Listed : {A : Type 0} → Kind → (A → Phrase) → List A → Phrase
Listed between p [] = Never
Listed between p (a ∷ more) = p a ⨾ EachAfter between p more

-- [opening x {between x} closing], the list being empty where it is not there
abbrev pub Enclosed : {A : Type 0} → Kind → Kind → Kind → (A → Phrase) → List A → Phrase
Enclosed opening between closing p [] = Nothing
Enclosed opening between closing p (a ∷ more) = Is opening ⨾ p a ⨾ EachAfter between p more ⨾ Is closing
