-- Spans of values (own): those of choices, and which values they hold.
use Rattle.std.specs.Prelude.{ℕ, ◌==◌, ℤ, int_le, int_lt, Bool, true, ◌&&◌, ◌||◌, if◌then◌else◌, List, [], ◌∷◌, ◌++◌, sum_by, ◌+ℤ◌, pos, Option, Some, None}
use Rattle.rv_code.specs.Statements.{Alternatives, no_alternatives, and_alternative}
use Rattle.rv_code.specs.declared.statement.Choice.{Choice}
use Rattle.rv_code.specs.declared.statement.Choice.TheVariants.{Values, Others}
use Rattle.rv_types.specs.Coverage.{how_many, each_from}

-- these spans, and behind them that of a choice, if it has values
abbrev pub with_span : Choice → List (ℤ × ℤ) → List (ℤ × ℤ)
with_span (Values low high) done = if int_lt high low then done else done ++ (low, high) ∷ []
with_span Others done = done

abbrev pub spans_onto : List Choice → List (ℤ × ℤ) → List (ℤ × ℤ)
spans_onto [] done = done
spans_onto (c ∷ cs) done = spans_onto cs (with_span c done)

-- the spans of all choices
abbrev pub all_spans : Alternatives → List (ℤ × ℤ) → List (ℤ × ℤ)
all_spans no_alternatives done = done
all_spans (and_alternative cs ss more) done = all_spans more (spans_onto cs done)

-- a span has values, from a low one to a high one
abbrev pub is_part : ℤ → ℤ → (ℤ × ℤ) → Bool
is_part low high s = int_le s.0 s.1 && (int_le low s.0 && int_le s.1 high)

abbrev pub are_parts : ℤ → ℤ → List (ℤ × ℤ) → Bool
are_parts low high [] = true
are_parts low high (s ∷ more) = is_part low high s && are_parts low high more

-- no span begins before the one before it
abbrev pub are_rising : List (ℤ × ℤ) → Bool
are_rising [] = true
are_rising (s ∷ []) = true
are_rising (s ∷ t ∷ more) = int_le s.0 t.0 && are_rising (t ∷ more)

-- in how many of these spans a value is
abbrev pub in_span : ℤ → (ℤ × ℤ) → ℕ
in_span z s = if int_le s.0 z && int_le z s.1 then 1 else 0

abbrev pub spanned : ℤ → List (ℤ × ℤ) → ℕ
spanned z = sum_by (in_span z)

-- once, or where there may be gaps never
abbrev pub counts : Bool → ℕ → Bool
counts gaps n = n == 1 || (gaps && n == 0)

-- a span begins at a value, or behind it where there may be gaps
abbrev pub begins : Bool → ℤ → ℤ → Bool
begins gaps next low = int_le next low && (gaps || int_le low next)

-- the value behind such a span, if there is one
abbrev pub value_after : Bool → ℤ → (ℤ × ℤ) → Option ℤ
value_after gaps next s = if begins gaps next s.0 && int_lt s.1 (pos 9223372036854775807) then Some (s.1 +ℤ pos 1) else None

-- each value from a low one to a high one is in exactly one of these spans, or where there may be gaps in none
unfoldable pub each_once : Bool → ℤ → ℤ → List (ℤ × ℤ) → Bool
each_once gaps low high spans = each_from (λ z. counts gaps (spanned z spans)) low (how_many low high)
