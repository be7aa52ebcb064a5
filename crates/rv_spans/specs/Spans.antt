-- Spans of ticks in order, and what is told of them (own).
use Rattle.std.specs.Prelude.{ℕ, ◌-◌, ◌/◌, nat_le, if◌then◌else◌, List, [], ◌∷◌, ◌++◌, length, slice_index, codes}
use Rattle.std.specs.Fmt.{decimal}

-- spans in order with one more, which stands before the first that isn't below it
abbrev pub with_span : ℕ → List ℕ → List ℕ
with_span span [] = span ∷ []
with_span span (next ∷ spans) = if nat_le span next then span ∷ next ∷ spans else next ∷ with_span span spans

-- spans in order, the shortest first
abbrev pub in_order : List ℕ → List ℕ
in_order [] = []
in_order (span ∷ spans) = with_span span (in_order spans)

-- the middle one, of an even number the lesser of the two
abbrev pub median : List ℕ → ℕ
median spans = slice_index (in_order spans) ((length spans - 1) / 2)

-- the least that no more than a hundredth of them are above
abbrev pub ninety_ninth : List ℕ → ℕ
ninety_ninth spans = slice_index (in_order spans) (length spans - 1 - length spans / 100)

abbrev pub longest : List ℕ → ℕ
longest spans = slice_index (in_order spans) (length spans - 1)

-- how many there are, and these three, in words
abbrev pub ranks_words : ℕ → ℕ → ℕ → ℕ → List ℕ
ranks_words number middle high most =
    decimal number ++ (codes " median " ++ (decimal middle ++ (codes " 99th " ++ (decimal high
    ++ (codes " longest " ++ decimal most)))))

abbrev pub ranks_text : List ℕ → List ℕ
ranks_text spans = ranks_words (length spans) (median spans) (ninety_ninth spans) (longest spans)
