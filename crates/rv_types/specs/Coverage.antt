-- Which values the choices of a case statement cover (ISO/IEC 8652:2012, 3.8.1, 5.4).
use Rattle.std.specs.Prelude.{ℕ, zero, suc, ◌+◌, ◌==◌, ℤ, pos, ◌+ℤ◌, ◌-ℤ◌, unsigned_abs, int_le, int_lt, Bool, true, false, ◌&&◌, ◌||◌, if◌then◌else◌, List, [], ◌∷◌, sum_by}
use Rattle.std.specs.List.{list_any, list_all}
use Rattle.rv_shape.specs.declared.kind.Range.{Range}
use Rattle.rv_code.specs.Statements.{Alternatives, no_alternatives, and_alternative}
use Rattle.rv_code.specs.declared.statement.Choice.{Choice}
use Rattle.rv_code.specs.declared.statement.Choice.TheVariants.{Values, Others}

abbrev pub is_others : Choice → Bool
is_others (Values low high) = false
is_others Others = true

abbrev pub has_others : List Choice → Bool
has_others = list_any is_others

-- `others` is the only choice
abbrev pub is_alone : List Choice → Bool
is_alone [] = false
is_alone (c ∷ []) = is_others c
is_alone (c ∷ d ∷ more) = false

-- these are no alternatives
abbrev pub are_none : Alternatives → Bool
are_none no_alternatives = true
are_none (and_alternative cs ss more) = false

-- `others` stands alone, in the last alternative
abbrev pub others_last : Alternatives → Bool
others_last no_alternatives = true
others_last (and_alternative cs ss more) = if has_others cs then are_none more && is_alone cs else others_last more

-- one of these alternatives has `others`
abbrev pub with_others : Alternatives → Bool
with_others no_alternatives = false
with_others (and_alternative cs ss more) = has_others cs || with_others more

-- a choice covers values of the range alone, or none
abbrev pub lies_in : Range → Choice → Bool
lies_in r (Values low high) = int_lt high low || (int_le r.low low && int_le high r.high)
lies_in r Others = true

abbrev pub all_lie_in : Range → List Choice → Bool
all_lie_in r = list_all (lies_in r)

abbrev pub lie_in : Range → Alternatives → Bool
lie_in r no_alternatives = true
lie_in r (and_alternative cs ss more) = all_lie_in r cs && lie_in r more

-- a value is of a choice; what is of no other choice is of `others`
abbrev pub is_of : ℤ → Choice → Bool
is_of z (Values low high) = int_le low z && int_le z high
is_of z Others = false

-- of how many of these choices a value is
abbrev pub times : ℤ → List Choice → ℕ
times z = sum_by (λ c. if is_of z c then 1 else 0)

abbrev pub times_in : ℤ → Alternatives → ℕ
times_in z no_alternatives = 0
times_in z (and_alternative cs ss more) = times z cs + times_in z more

-- a value is of exactly one choice
abbrev pub is_once : Alternatives → ℤ → Bool
is_once alternatives z = times_in z alternatives == 1 || (with_others alternatives && times_in z alternatives == 0)

-- how many values are from one to another, and whether all of so many values from one on are such
abbrev pub how_many : ℤ → ℤ → ℕ
how_many low high = if int_lt high low then 0 else unsigned_abs (high -ℤ low) + 1

abbrev pub each_from : (ℤ → Bool) → ℤ → ℕ → Bool
each_from test z zero = true
each_from test z (suc n) = test z && each_from test (z +ℤ pos 1) n

-- each value of the range is of exactly one choice, and no other value of any; `others` stands alone and last
unfoldable pub covers : Range → Alternatives → Bool
covers r alternatives = others_last alternatives && lie_in r alternatives && each_from (is_once alternatives) r.low (how_many r.low r.high)
