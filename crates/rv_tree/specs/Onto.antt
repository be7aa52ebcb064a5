-- What it is to print words: a space and a word are put behind what is printed already.
use Rattle.std.specs.Prelude.{ℕ, Bool, true, false, List, [], ◌∷◌, ◌++◌, Option, Some, None}
use Rattle.std.specs.Fmt.{decimal}
use Rattle.rv_lex.specs.declared.kind.Kind.{Kind}
use Rattle.rv_lex.specs.Kinds.{spelling}

abbrev pub Onto : Type 0
Onto = List ℕ → List ℕ

infixr 10 ◌▷◌
-- the one, and then the other
abbrev pub ◌▷◌ : Onto → Onto → Onto
(f ▷ g) out = g (f out)

-- nothing
abbrev pub nothing_onto : Onto
nothing_onto out = out

-- a space and these bytes
abbrev pub bytes_onto : List ℕ → Onto
bytes_onto bytes out = out ++ 32 ∷ bytes

-- a reserved word or a delimiter
abbrev pub kind_onto : Kind → Onto
kind_onto kind = bytes_onto (spelling kind)

-- a decimal literal
abbrev pub number_onto : ℕ → Onto
number_onto value = bytes_onto (decimal value)

-- the word, where the flag is true
abbrev pub flag_onto : Kind → Bool → Onto
flag_onto kind true = kind_onto kind
flag_onto kind false = nothing_onto

-- the part, where there is one
abbrev pub maybe_onto : {A : Type 0} → (A → Onto) → Option A → Onto
maybe_onto f None = nothing_onto
maybe_onto f (Some a) = f a

-- all parts
abbrev pub each_onto : {A : Type 0} → (A → Onto) → List A → Onto
each_onto f [] out = out
each_onto f (a ∷ more) out = each_onto f more (f a out)

-- a word and the part
abbrev pub after_onto : {A : Type 0} → Kind → (A → Onto) → A → Onto
after_onto between f a = kind_onto between ▷ f a

-- all parts, with a word between
abbrev pub listed_onto : {A : Type 0} → Kind → (A → Onto) → List A → Onto
listed_onto between f [] = nothing_onto
listed_onto between f (a ∷ more) = f a ▷ each_onto (after_onto between f) more

-- all parts in brackets, with a word between; nothing where there is no part
abbrev pub enclosed_onto : {A : Type 0} → Kind → Kind → Kind → (A → Onto) → List A → Onto
enclosed_onto opening between closing f [] = nothing_onto
enclosed_onto opening between closing f (a ∷ more) =
    kind_onto opening ▷ f a ▷ each_onto (after_onto between f) more ▷ kind_onto closing
