-- A word is looked for among those alone that begin with its letter.
use Rattle.std.proofs.Common.{◌≡◌, ◌∙◌, refl, sym, ap, arith, ℕ, Bool, true, false, ◌&&◌, ◌==◌, not, List, [], ◌∷◌, ◌++◌, map, Option, Some, None}
use Rattle.std.proofs.Common.{true≢false}
use Rattle.std.proofs.lemmas.Bool.{eqb-true}
use Rattle.std.proofs.lemmas.Bool.Decides.{nat_tests}
use Rattle.std.proofs.lemmas.Slice.Eq.{bytes_eq-Decides}
use Rattle.std.specs.Prelude.{if◌then◌else◌, slice_index}
use Rattle.std.specs.List.{list_all}
use Rattle.std.specs.Char.{to_ascii_lowercase}
use Rattle.std.specs.Str.{str_eq_ignore_ascii_case}
use Rattle.rv_lex.specs.declared.kind.Kind.{Kind}
use Rattle.rv_lex.specs.Kinds.{Text, spelling, reserved, kind_in, kind_by_letter, kind_in_section, kind_spelled}
use Rattle.rv_lex.proofs.Lookup.{both}

-- the small letter that a text begins with
abbrev letter_of : Text → ℕ
letter_of w = to_ascii_lowercase (slice_index w 0)

abbrev begins : ℕ → Text × Kind → Bool
begins letter e = letter_of e.0 == letter

-- each entry begins with the letter of its section
abbrev pub are_begun : List (ℕ × List (Text × Kind)) → Bool
are_begun [] = true
are_begun (s ∷ more) = list_all (begins s.0) s.1 && are_begun more

-- none of these is the section of a letter
abbrev pub is_new : ℕ → List (ℕ × List (Text × Kind)) → Bool
is_new letter [] = true
is_new letter (s ∷ more) = not (s.0 == letter) && is_new letter more

-- each letter has one section
abbrev pub are_new : List (ℕ × List (Text × Kind)) → Bool
are_new [] = true
are_new (s ∷ more) = is_new s.0 more && are_new more

-- the entries of all sections
abbrev pub words_of : List (ℕ × List (Text × Kind)) → List (Text × Kind)
words_of [] = []
words_of (s ∷ more) = s.1 ++ words_of more

first_lower : (z : Text) → slice_index (map to_ascii_lowercase z) 0 ≡ letter_of z
first_lower [] = refl
first_lower (b ∷ z) = refl

-- texts that are the same begin with one letter
same_letter : (w : Text) (e : Text × Kind) → str_eq_ignore_ascii_case w e.0 ≡ true → letter_of e.0 ≡ letter_of w
same_letter w e h =
    sym (first_lower e.0)
    ∙ ap (λ (z : Text). slice_index z 0) (sym ((bytes_eq-Decides (map to_ascii_lowercase w) (map to_ascii_lowercase e.0)).0 h))
    ∙ first_lower w

is_equal : (a b : ℕ) → a ≡ b → a == b ≡ true
is_equal a b e = grind (arith, nat_tests)

-- an entry of another letter isn't the word
unlike : (w : Text) (e : Text × Kind) (letter : ℕ) (b : Bool) → str_eq_ignore_ascii_case w e.0 ≡ b → begins letter e ≡ true → letter == letter_of w ≡ false → b ≡ false
unlike w e letter false is begun other = refl
unlike w e letter true is begun other =
    let same : letter ≡ letter_of w = sym (eqb-true (letter_of e.0) letter begun) ∙ same_letter w e is in
    absurd (true≢false (sym (is_equal letter (letter_of w) same) ∙ other))

skips : (es rest : List (Text × Kind)) (w : Text) (letter : ℕ) → list_all (begins letter) es ≡ true → letter == letter_of w ≡ false → kind_in (es ++ rest) w ≡ kind_in rest w
skips [] rest w letter all other = refl
skips (e ∷ es) rest w letter all other =
    let parts : (begins letter e ≡ true) × (list_all (begins letter) es ≡ true) = both (begins letter e) (list_all (begins letter) es) all in
    ap (λ (b : Bool). if b then Some e.1 else kind_in (es ++ rest) w) (unlike w e letter (str_eq_ignore_ascii_case w e.0) refl parts.0 other)
    ∙ skips es rest w letter parts.1 other

not_true : (b : Bool) → not b ≡ true → b ≡ false
not_true true h = absurd cc
not_true false h = refl

none : (sections : List (ℕ × List (Text × Kind))) (w : Text) → are_begun sections ≡ true → is_new (letter_of w) sections ≡ true → kind_in (words_of sections) w ≡ None
none [] w begun new = refl
none (s ∷ more) w begun new =
    let b : (list_all (begins s.0) s.1 ≡ true) × (are_begun more ≡ true) = both (list_all (begins s.0) s.1) (are_begun more) begun in
    let n : (not (s.0 == letter_of w) ≡ true) × (is_new (letter_of w) more ≡ true) = both (not (s.0 == letter_of w)) (is_new (letter_of w) more) new in
    skips s.1 (words_of more) w s.0 b.0 (not_true (s.0 == letter_of w) n.0) ∙ none more w b.1 n.1

stops : (es rest : List (Text × Kind)) (w : Text) → kind_in rest w ≡ None → kind_in (es ++ rest) w ≡ kind_in es w
stops [] rest w h = h
stops (e ∷ es) rest w h = ap (λ (o : Option Kind). if str_eq_ignore_ascii_case w e.0 then Some e.1 else o) (stops es rest w h)

by_letter : (s : ℕ × List (Text × Kind)) (more : List (ℕ × List (Text × Kind))) (w : Text) (b : Bool) → s.0 == letter_of w ≡ b →
    list_all (begins s.0) s.1 ≡ true → are_begun more ≡ true → is_new s.0 more ≡ true →
    kind_by_letter more (letter_of w) w ≡ kind_in (words_of more) w →
    (if b then kind_in s.1 w else kind_by_letter more (letter_of w) w) ≡ kind_in (s.1 ++ words_of more) w
by_letter s more w true is all begun new rest =
    let mine : is_new (letter_of w) more ≡ true = sym (ap (λ (n : ℕ). is_new n more) (eqb-true s.0 (letter_of w) is)) ∙ new in
    sym (stops s.1 (words_of more) w (none more w begun mine))
by_letter s more w false is all begun new rest = rest ∙ sym (skips s.1 (words_of more) w s.0 all is)

in_section : (sections : List (ℕ × List (Text × Kind))) (w : Text) → are_begun sections ≡ true → are_new sections ≡ true → kind_by_letter sections (letter_of w) w ≡ kind_in (words_of sections) w
in_section [] w begun new = refl
in_section (s ∷ more) w begun new =
    let b : (list_all (begins s.0) s.1 ≡ true) × (are_begun more ≡ true) = both (list_all (begins s.0) s.1) (are_begun more) begun in
    let n : (is_new s.0 more ≡ true) × (are_new more ≡ true) = both (is_new s.0 more) (are_new more) new in
    by_letter s more w (s.0 == letter_of w) refl b.0 b.1 n.0 (in_section more w b.1 n.1)

-- what the section of a word's letter has for it is what all words have, where the sections are those of all reserved words
pub reserved_in : (sections : List (ℕ × List (Text × Kind))) (w : Text) (letter : ℕ) (found : Option Kind) →
    letter ≡ to_ascii_lowercase (slice_index w 0) → found ≡ kind_in_section sections letter w →
    are_begun sections && are_new sections ≡ true → words_of sections ≡ map (λ kind. (spelling kind, kind)) reserved →
    found ≡ kind_spelled reserved w
unfolding kind_spelled kind_in_section
reserved_in sections w letter found e is sound all =
    let s : (are_begun sections ≡ true) × (are_new sections ≡ true) = both (are_begun sections) (are_new sections) sound in
    is ∙ ap (λ (n : ℕ). kind_by_letter sections n w) e ∙ in_section sections w s.0 s.1
    ∙ ap (λ (es : List (Text × Kind)). kind_in es w) all
