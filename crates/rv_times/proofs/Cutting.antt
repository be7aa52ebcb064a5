-- Texts that are cut at a byte.
use Rattle.std.proofs.Common.{◌≡◌, ℕ, zero, suc, ◌+◌, ◌<◌, ◌≤◌, Bool, true, false, List, [], ◌∷◌, ◌++◌, length, drop, refl, sym, ap, ◌∙◌, arith, append_assoc, append-nil}
use Rattle.std.specs.Prelude.{nat_lt, not, Option}
use Rattle.std.proofs.lemmas.Bool.Decides.{nat_tests}
use Rattle.rv_text.specs.Numbers.{natural_of}
use Rattle.std.specs.List.{slice_split, position_or_len, before_first, after_first}
use Rattle.std.proofs.lemmas.List.Splits.{slice_split_first}
use Rattle.rv_times.specs.Times.{TimeText}
use Rattle.rv_times.specs.Telling.{field_of, is_colon, is_comma, is_feed, is_of_list, is_space, names_entry, time_of, timed, timed_all, timed_as, timed_if, timed_json, timed_line, timed_lines, timed_parts, timed_words}

abbrev Text : Type 0
Text = List ℕ

-- the parts of a text that is cut at its first such byte
pub cut_at : (p : ℕ → Bool) (text front rest : Text) → position_or_len p text < length text → front ≡ before_first p text → rest ≡ after_first p text → slice_split p text ≡ front ∷ slice_split p rest
cut_at p text front rest h f r = slice_split_first p text 0 h ∙ (rw (f, r) refl)

pub two_put : (old one two a b : Text) → one ≡ old ++ a → two ≡ one ++ b → two ≡ old ++ (a ++ b)
two_put old one two a b one_is two_is = two_is ∙ ap (λ (t : Text). t ++ b) one_is ∙ append_assoc old a b

pub three_put : (old one two three a b c : Text) → one ≡ old ++ a → two ≡ one ++ b → three ≡ two ++ c → three ≡ old ++ (a ++ (b ++ c))
three_put old one two three a b c one_is two_is three_is =
    two_put old one three a (b ++ c) one_is (two_put one two three b c two_is three_is)

pub four_put : (old one two three four a b c d : Text) → one ≡ old ++ a → two ≡ one ++ b → three ≡ two ++ c → four ≡ three ++ d → four ≡ old ++ (a ++ (b ++ (c ++ d)))
four_put old one two three four a b c d one_is two_is three_is four_is =
    two_put old one four a (b ++ (c ++ d)) one_is (three_put one two three four b c d two_is three_is four_is)

-- a word behind a space, and those behind it
pub words_more : (times : List TimeText) (is_entry : Bool) (old one two three text word rest : Text) → slice_split is_space text ≡ word ∷ slice_split is_space rest →
    one ≡ old ++ 32 ∷ [] → two ≡ one ++ timed_if is_entry times word → three ≡ two ++ timed_words times (names_entry word) (slice_split is_space rest) →
    three ≡ old ++ timed_words times is_entry (slice_split is_space text)
words_more times is_entry old one two three text word rest cut one_is two_is three_is =
    three_put old one two three (32 ∷ []) (timed_if is_entry times word) (timed_words times (names_entry word) (slice_split is_space rest)) one_is two_is three_is
    ∙ ap (λ (ws : List Text). old ++ timed_words times is_entry ws) (sym cut)

-- the last word
pub words_last : (times : List TimeText) (is_entry : Bool) (old one two text : Text) → slice_split is_space text ≡ text ∷ [] → one ≡ old ++ 32 ∷ [] → two ≡ one ++ timed_if is_entry times text →
    two ≡ old ++ timed_words times is_entry (slice_split is_space text)
words_last times is_entry old one two text cut one_is two_is =
    two_put old one two (32 ∷ []) (timed_if is_entry times text) one_is two_is
    ∙ ap (λ (t : Text). old ++ 32 ∷ t) (sym (append-nil (timed_if is_entry times text)))
    ∙ ap (λ (ws : List Text). old ++ timed_words times is_entry ws) (sym cut)

-- a line behind a line feed, and those behind it
pub lines_step : (is_json : Bool) (times : List TimeText) (whole text one two rest line others : Text) → slice_split is_feed rest ≡ line ∷ slice_split is_feed others → one ≡ text ++ 10 ∷ [] →
    two ≡ one ++ timed_as is_json times line → text ++ timed_lines is_json times (slice_split is_feed rest) ≡ whole → two ++ timed_lines is_json times (slice_split is_feed others) ≡ whole
lines_step is_json times whole text one two rest line others cut one_is two_is e =
    let behind : Text = timed_lines is_json times (slice_split is_feed others) in
    three_put text one two (two ++ behind) (10 ∷ []) (timed_as is_json times line) behind one_is two_is refl
    ∙ ap (λ (ls : List Text). text ++ timed_lines is_json times ls) (sym cut) ∙ e

-- the last line
pub lines_last : (is_json : Bool) (times : List TimeText) (whole text one two rest : Text) → slice_split is_feed rest ≡ rest ∷ [] → one ≡ text ++ 10 ∷ [] → two ≡ one ++ timed_as is_json times rest →
    text ++ timed_lines is_json times (slice_split is_feed rest) ≡ whole → two ≡ whole
lines_last is_json times whole text one two rest cut one_is two_is e =
    two_put text one two (10 ∷ []) (timed_as is_json times rest) one_is two_is
    ∙ ap (λ (t : Text). text ++ 10 ∷ t) (sym (append-nil (timed_as is_json times rest)))
    ∙ ap (λ (ls : List Text). text ++ timed_lines is_json times ls) (sym cut) ∙ e

-- A line of words

pub line_cut : (times : List TimeText) (old one two line word words : Text) (listed entry : Bool) → slice_split is_space line ≡ word ∷ slice_split is_space words → listed ≡ is_of_list (slice_split is_space words) → entry ≡ names_entry word →
    one ≡ old ++ timed_if (not listed) times word → two ≡ one ++ timed_words times entry (slice_split is_space words) → two ≡ old ++ timed_line times line
line_cut times old one two line word words listed entry cut listed_is entry_is one_is two_is =
    let rest = slice_split is_space words in
    two_put old one two (timed_if (not listed) times word) (timed_words times entry rest) one_is two_is
    ∙ ap (λ (b : Bool). old ++ (timed_if (not b) times word ++ timed_words times entry rest)) listed_is
    ∙ ap (λ (b : Bool). old ++ (timed_if (not (is_of_list rest)) times word ++ timed_words times b rest)) entry_is
    ∙ ap (λ (ws : List Text). old ++ timed_parts times ws) (sym cut)

pub line_whole : (times : List TimeText) (old new line : Text) → slice_split is_space line ≡ line ∷ [] → new ≡ old ++ line → new ≡ old ++ timed_line times line
line_whole times old new line cut e =
    e ∙ ap (λ (t : Text). old ++ t) (sym (append-nil line)) ∙ ap (λ (ws : List Text). old ++ timed_parts times ws) (sym cut)

-- A line of JSON

json_then : (times : List TimeText) (line : Text) → position_or_len is_comma line < length line →
    timed_json times line ≡ before_first is_comma line ++ (field_of (time_of times (natural_of (after_first is_colon (before_first is_comma line)))) ++ 44 ∷ after_first is_comma line)
json_then times line h = let t : nat_lt (position_or_len is_comma line) (length line) ≡ true = grind (arith, nat_tests, h) in rw t refl

json_else : (times : List TimeText) (line : Text) → position_or_len is_comma line ≡ length line → timed_json times line ≡ line
json_else times line h = let t : nat_lt (position_or_len is_comma line) (length line) ≡ false = grind (arith, nat_tests, h) in rw t refl

pub json_cut : (times : List TimeText) (old new line head fields number : Text) (time : Option Text) → position_or_len is_comma line < length line → head ≡ before_first is_comma line → fields ≡ after_first is_comma line →
    number ≡ after_first is_colon head → time ≡ time_of times (natural_of number) → new ≡ old ++ (head ++ (field_of time ++ 44 ∷ fields)) → new ≡ old ++ timed_json times line
json_cut times old new line head fields number time h head_is fields_is number_is time_is e =
    let told : time ≡ time_of times (natural_of (after_first is_colon (before_first is_comma line))) =
    time_is ∙ ap (λ (n : Text). time_of times (natural_of n)) (number_is ∙ ap (λ (t : Text). after_first is_colon t) head_is) in
    e ∙ ap (λ (t : Text). old ++ (t ++ (field_of time ++ 44 ∷ fields))) head_is
    ∙ ap (λ (o : Option Text). old ++ (before_first is_comma line ++ (field_of o ++ 44 ∷ fields))) told
    ∙ ap (λ (t : Text). old ++ (before_first is_comma line ++ (field_of (time_of times (natural_of (after_first is_colon (before_first is_comma line)))) ++ 44 ∷ t))) fields_is
    ∙ ap (λ (t : Text). old ++ t) (sym (json_then times line h))

pub json_whole : (times : List TimeText) (old new line : Text) → position_or_len is_comma line ≡ length line → new ≡ old ++ line → new ≡ old ++ timed_json times line
json_whole times old new line h e = e ∙ ap (λ (t : Text). old ++ t) (sym (json_else times line h))

-- A text

pub all_cut : (is_json : Bool) (times : List TimeText) (old one two told line lines : Text) → slice_split is_feed told ≡ line ∷ slice_split is_feed lines → one ≡ old ++ timed_as is_json times line →
    two ≡ one ++ timed_lines is_json times (slice_split is_feed lines) → two ≡ old ++ timed is_json times told
all_cut is_json times old one two told line lines cut one_is two_is =
    two_put old one two (timed_as is_json times line) (timed_lines is_json times (slice_split is_feed lines)) one_is two_is
    ∙ ap (λ (ls : List Text). old ++ timed_all is_json times ls) (sym cut)

pub all_whole : (is_json : Bool) (times : List TimeText) (old new told : Text) → slice_split is_feed told ≡ told ∷ [] → new ≡ old ++ timed_as is_json times told → new ≡ old ++ timed is_json times told
all_whole is_json times old new told cut e =
    e ∙ ap (λ (t : Text). old ++ t) (sym (append-nil (timed_as is_json times told))) ∙ ap (λ (ls : List Text). old ++ timed_all is_json times ls) (sym cut)

-- Behind the first byte of a kind stands nothing where there is none

pub none_behind : (p : ℕ → Bool) (text : Text) → position_or_len p text ≡ length text → after_first p text ≡ []
none_behind p text h = drop_past (position_or_len p text + 1) text (omega arith)
  where
    drop_past : (n : ℕ) (xs : Text) → length xs ≤ n → drop n xs ≡ []
    drop_past zero [] le = refl
    drop_past (suc n) [] le = refl
    drop_past zero (x ∷ xs) le = absurd (omega arith)
    drop_past (suc n) (x ∷ xs) le = drop_past n xs (omega arith)
