-- What reading rules are made of. A rule reads the front of the tokens, and gives what it read and the tokens that are left.
use Rattle.std.specs.Prelude.{◌≡◌, ℕ, zero, suc, Bool, false, if◌then◌else◌, List, [], ◌∷◌, ◌++◌, length, Option, Some, None, Result, Ok, Err}
use denote.Enum.Bare.{sameb}
use Rattle.rv_lex.specs.declared.kind.Kind.{Kind}
use Rattle.rv_lex.specs.declared.kind.Kind.TheVariants as k
use Rattle.rv_lex.specs.contracts.kind.Kind.{the_type}
use Rattle.rv_lex.specs.Lexes.{Lexeme}
use Rattle.rv_lex.specs.Literals.{value_of}

pub data Fault : Type 0 where
  unexpected : Fault
  too_deep : Fault

abbrev pub Outcome : Type 0 → Type 0
Outcome A = Result (A × List Lexeme) Fault

abbrev pub Parser : Type 0 → Type 0
Parser A = List Lexeme → Outcome A

abbrev pub and_then : {A B : Type 0} → Outcome A → (A → Parser B) → Outcome B
and_then (Ok p) f = f p.0 p.1
and_then (Err e) f = Err e

infixl 10 ◌>>=◌
abbrev pub ◌>>=◌ : {A B : Type 0} → Parser A → (A → Parser B) → Parser B
p >>= f = λ i. and_then (p i) f

infixl 10 ◌>>◌
abbrev pub ◌>>◌ : {A B : Type 0} → Parser A → Parser B → Parser B
p >> q = p >>= (λ _. q)

abbrev pub pure : {A : Type 0} → A → Parser A
pure a = λ i. Ok (a, i)

abbrev pub refuse : {A : Type 0} → Parser A
refuse = λ i. Err unexpected

unfoldable pub same_kind : Kind → Kind → Bool
same_kind = sameb the_type

unfoldable pub next : List Lexeme → List Lexeme
next [] = []
next (t ∷ ts) = ts

-- whether the next token is of this kind
unfoldable pub sees : Kind → List Lexeme → Bool
sees what [] = false
sees what (t ∷ ts) = same_kind t.kind what

-- the rule for the kind of the next token
abbrev pub by_kind : {A : Type 0} → (Kind → Parser A) → Parser A
by_kind f [] = Err unexpected
by_kind f (t ∷ ts) = f t.kind (t ∷ ts)

-- takes a token of this kind, if it comes next
unfoldable pub after : Kind → List Lexeme → List Lexeme
after what i = if sees what i then next i else i

abbrev pub eat : Kind → Parser Bool
eat what = λ i. Ok (sees what i, after what i)

-- the place is that of the next token, if there is one
abbrev pub IsPlace : List Lexeme → ℕ → Type 0
IsPlace [] at = Unit {0}
IsPlace (t ∷ ts) at = at ≡ t.place

-- the place of the next token, 0 where there is none
unfoldable pub place : List Lexeme → ℕ
place [] = 0
place (t ∷ ts) = t.place

unfoldable pub text : List Lexeme → List ℕ
text [] = []
text (t ∷ ts) = t.text

unfoldable pub value : List Lexeme → ℕ
value [] = 0
value (t ∷ ts) = value_of t.text

-- the place of the token, which is of this kind
unfoldable pub expect : Kind → Parser ℕ
expect what = λ i. if sees what i then Ok (place i, next i) else Err unexpected

-- {x}, while one begins, at most so many
unfoldable pub many_from : {A : Type 0} → (List Lexeme → Bool) → Parser A → ℕ → List A → Parser (List A)
many_from begins item zero found = pure found
many_from begins item (suc n) found = λ i. if begins i then (item >>= λ a. many_from begins item n (found ++ a ∷ [])) i else Ok (found, i)

-- the ones that were found, and {x}
unfoldable pub more_of : {A : Type 0} → (List Lexeme → Bool) → Parser A → List A → Parser (List A)
more_of begins item found = λ i. many_from begins item (length i) found i

-- {x}
unfoldable pub many : {A : Type 0} → (List Lexeme → Bool) → Parser A → Parser (List A)
many begins item = more_of begins item []

-- x {x}
unfoldable pub at_least_one : {A : Type 0} → (List Lexeme → Bool) → Parser A → Parser (List A)
at_least_one begins item = item >>= λ a. more_of begins item (a ∷ [])

-- what the rule reads behind the next token
abbrev pub behind : {A : Type 0} → Parser A → Parser A
behind item = λ i. item (next i)

-- the ones that were found, and {between x}
unfoldable pub more_after : {A : Type 0} → Kind → Parser A → List A → Parser (List A)
more_after between item found = more_of (sees between) (behind item) found

-- x {between x}
unfoldable pub listed : {A : Type 0} → Kind → Parser A → Parser (List A)
listed between item = item >>= λ a. more_after between item (a ∷ [])

-- ["(" x {between x} ")"]
unfoldable pub enclosed : {A : Type 0} → Kind → Parser A → Parser (List A)
enclosed between item = do
  is_there ← eat k.LeftParenthesis
  if is_there then (do found ← listed between item; expect k.RightParenthesis; pure found) else pure []

-- [x]
unfoldable pub optional : {A : Type 0} → (List Lexeme → Bool) → Parser A → Parser (Option A)
optional begins item = λ i. if begins i then (item >>= λ a. pure (Some a)) i else Ok (None, i)

-- [word x]
unfoldable pub optional_after : {A : Type 0} → Kind → Parser A → Parser (Option A)
optional_after word item = do
  is_there ← eat word
  if is_there then (item >>= λ a. pure (Some a)) else pure None

-- whether the kind of the next token is one of these
unfoldable pub starts_by : (Kind → Bool) → List Lexeme → Bool
starts_by begins [] = false
starts_by begins (t ∷ ts) = begins t.kind

-- the kind of the next token
unfoldable pub kind : List Lexeme → Option Kind
kind [] = None
kind (t ∷ ts) = Some t.kind

-- what the kind of the next token stands for
abbrev pub of_kind : {A : Type 0} → (Kind → Option A) → Option Kind → Option A
of_kind f None = None
of_kind f (Some what) = f what

-- the outcome of a rule that cannot fail
abbrev pub read_to : {A : Type 0} → A → List Lexeme → Outcome A
read_to a new = Ok (a, new)
