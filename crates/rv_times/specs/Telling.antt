-- What is told of a journal, with the times of the entries that it names (own).
use Rattle.std.specs.Prelude.{ℕ, ◌-◌, ◌==◌, ◌||◌, nat_lt, not, Bool, true, if◌then◌else◌, List, [], ◌∷◌, ◌++◌, length, take, drop, slice_index, codes, Option, Some, None}
use Rattle.std.specs.List.{after_first, before_first, position_or_len, slice_split}
use Rattle.std.specs.Str.{bytes_eq}
use Rattle.rv_text.specs.Numbers.{natural_of}
use Rattle.rv_times.specs.Times.{TimeText, written_by}

abbrev pub is_space : ℕ → Bool
is_space byte = byte == 32

abbrev pub is_feed : ℕ → Bool
is_feed byte = byte == 10

abbrev pub is_comma : ℕ → Bool
is_comma byte = byte == 44

abbrev pub is_colon : ℕ → Bool
is_colon byte = byte == 58

-- by when the entry of a number was written, if there is a number and that is known
abbrev pub time_of : List TimeText → Option ℕ → Option (List ℕ)
time_of times None = None
time_of times (Some entry) = written_by entry times

-- Words

-- a time in brackets, if it is known
abbrev pub in_brackets : Option (List ℕ) → List ℕ
in_brackets None = []
in_brackets (Some words) = codes " (" ++ (words ++ codes ")")

-- a comma or a colon at the end of a word
abbrev pub has_mark : List ℕ → Bool
has_mark word = slice_index word (length word - 1) == 44 || slice_index word (length word - 1) == 58

-- a word without it
abbrev pub front : List ℕ → List ℕ
front word = if has_mark word then take (length word - 1) word else word

abbrev pub mark : List ℕ → List ℕ
mark word = if has_mark word then drop (length word - 1) word else []

-- the number of an entry has its time behind it
abbrev pub timed_word : List TimeText → List ℕ → List ℕ
timed_word times word = front word ++ (in_brackets (time_of times (natural_of (front word))) ++ mark word)

abbrev pub timed_if : Bool → List TimeText → List ℕ → List ℕ
timed_if is_entry times word = if is_entry then timed_word times word else word

-- the word behind which an entry's number stands
abbrev pub names_entry : List ℕ → Bool
names_entry word = bytes_eq word (codes "entry")

-- words of which each has a space before it
abbrev pub timed_words : List TimeText → Bool → List (List ℕ) → List ℕ
timed_words times is_entry [] = []
timed_words times is_entry (word ∷ words) = 32 ∷ (timed_if is_entry times word ++ timed_words times (names_entry word) words)

-- Lines

-- a line that begins with a number is about the entry of that number, unless it is one of an access list
abbrev pub is_verb : List ℕ → Bool
is_verb word = bytes_eq word (codes "allow") || bytes_eq word (codes "deny")

abbrev pub is_of_list : List (List ℕ) → Bool
is_of_list [] = true
is_of_list (word ∷ words) = is_verb word

abbrev pub timed_parts : List TimeText → List (List ℕ) → List ℕ
timed_parts times [] = []
timed_parts times (word ∷ words) = timed_if (not (is_of_list words)) times word ++ timed_words times (names_entry word) words

abbrev pub timed_line : List TimeText → List ℕ → List ℕ
timed_line times line = timed_parts times (slice_split is_space line)

-- a time as a field of JSON, if it is known
abbrev pub field_of : Option (List ℕ) → List ℕ
field_of None = []
field_of (Some words) = codes ",\"time\":\"" ++ (words ++ codes "\"")

-- the first field of a line of JSON is the entry's number; its time stands behind it
abbrev pub timed_json : List TimeText → List ℕ → List ℕ
timed_json times line =
    if nat_lt (position_or_len is_comma line) (length line)
    then before_first is_comma line ++ (field_of (time_of times (natural_of (after_first is_colon (before_first is_comma line)))) ++ 44 ∷ after_first is_comma line)
    else line

abbrev pub timed_as : Bool → List TimeText → List ℕ → List ℕ
timed_as is_json times line = if is_json then timed_json times line else timed_line times line

-- Texts

-- lines of which each has a line feed before it
abbrev pub timed_lines : Bool → List TimeText → List (List ℕ) → List ℕ
timed_lines is_json times [] = []
timed_lines is_json times (line ∷ lines) = 10 ∷ (timed_as is_json times line ++ timed_lines is_json times lines)

abbrev pub timed_all : Bool → List TimeText → List (List ℕ) → List ℕ
timed_all is_json times [] = []
timed_all is_json times (line ∷ lines) = timed_as is_json times line ++ timed_lines is_json times lines

-- a text, as lines of JSON or of words
abbrev pub timed : Bool → List TimeText → List ℕ → List ℕ
timed is_json times text = timed_all is_json times (slice_split is_feed text)
