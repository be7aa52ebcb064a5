-- The spans of choices hold a value as often as it is of a choice.
use Rattle.std.proofs.Common.{◌≡◌, ℕ, ◌+◌, ℤ, pos, List, [], ◌∷◌, ◌++◌, Bool, true, false, true≢false, refl, sym, ap, ◌∙◌, arith}
use Rattle.std.specs.Prelude.{int_le, int_lt, ◌&&◌, ◌||◌, if◌then◌else◌}
use Rattle.std.proofs.lemmas.Int.{ints}
use Rattle.std.proofs.lemmas.List.Sums.{sum_by-cons, sum_by-append}
use Rattle.rv_shape.specs.declared.kind.Range.{Range}
use Rattle.rv_code.specs.Statements.{Alternatives, no_alternatives, and_alternative}
use Rattle.rv_code.specs.declared.statement.Choice.{Choice}
use Rattle.rv_code.specs.declared.statement.Choice.TheVariants.{Values, Others}
use Rattle.rv_types.specs.Coverage.{is_of, times, times_in, is_once, with_others, how_many, each_from, others_last, lies_in, all_lie_in, lie_in, covers}
use Rattle.rv_types.specs.Spans.{with_span, spans_onto, all_spans, is_part, are_parts, in_span, spanned, counts, each_once}
use Rattle.rv_types.proofs.Chains.{both, and_both, outside, past, none_and, spanned_more, same_each}

plain : (n : ℕ) → n ≡ n + 0
plain n = omega arith

moved : (a b c : ℕ) → a + b + c ≡ a + (b + c)
moved a b c = omega arith

-- How often a value is in spans, and of choices

null : (low high z : ℤ) → int_lt high low ≡ true → in_span z (low, high) ≡ 0
null low high z e = by_low (int_le low z) refl
  where
    after_all : int_le low z ≡ true → int_le z high ≡ false
    after_all f = grind (arith, ints)

    by_low : (b : Bool) → int_le low z ≡ b → in_span z (low, high) ≡ 0
    by_low true is = past (int_le low z) (int_le z high) 1 (after_all is)
    by_low false is = outside (int_le low z) (int_le z high) 1 is

with_one : (z low high : ℤ) (done : List (ℤ × ℤ)) (b : Bool) → int_lt high low ≡ b →
    spanned z (if b then done else done ++ (low, high) ∷ []) ≡ spanned z done + in_span z (low, high)
with_one z low high done true e =
    let f : in_span z (low, high) ≡ 0 = null low high z e in
    omega (arith, f)
with_one z low high done false e =
    sum_by-append (in_span z) done ((low, high) ∷ [])
    ∙ ap (λ n. spanned z done + n) (spanned_more z (low, high) [] (in_span z (low, high)) 0 refl refl ∙ sym (plain (in_span z (low, high))))

span_counts : (z : ℤ) (c : Choice) (done : List (ℤ × ℤ)) → spanned z (with_span c done) ≡ spanned z done + (if is_of z c then 1 else 0)
span_counts z (Values low high) done = with_one z low high done (int_lt high low) refl
span_counts z Others done = plain (spanned z done)

spans_count : (z : ℤ) (cs : List Choice) (done : List (ℤ × ℤ)) → spanned z (spans_onto cs done) ≡ spanned z done + times z cs
spans_count z [] done = plain (spanned z done)
spans_count z (c ∷ cs) done =
    spans_count z cs (with_span c done) ∙ ap (λ n. n + times z cs) (span_counts z c done)
    ∙ moved (spanned z done) (if is_of z c then 1 else 0) (times z cs)
    ∙ ap (λ n. spanned z done + n) (sym (sum_by-cons (λ (x : Choice). if is_of z x then 1 else 0) c cs))

all_count : (z : ℤ) (alternatives : Alternatives) (done : List (ℤ × ℤ)) → spanned z (all_spans alternatives done) ≡ spanned z done + times_in z alternatives
all_count z no_alternatives done = plain (spanned z done)
all_count z (and_alternative cs ss more) done =
    all_count z more (spans_onto cs done) ∙ ap (λ n. n + times_in z more) (spans_count z cs done)
    ∙ moved (spanned z done) (times z cs) (times_in z more)

-- Choices that lie in a range have spans in it

parts_onto : (low high : ℤ) (done more : List (ℤ × ℤ)) → are_parts low high done ≡ true → are_parts low high more ≡ true → are_parts low high (done ++ more) ≡ true
parts_onto low high [] more e f = f
parts_onto low high (s ∷ done) more e f =
    let a = both (is_part low high s) (are_parts low high done) e in
    and_both (is_part low high s) (are_parts low high (done ++ more)) a.0 (parts_onto low high done more a.1 f)

not_null : (low high : ℤ) → int_lt high low ≡ false → int_le low high ≡ true
not_null low high e = grind (arith, ints)

in_it : (a b : Bool) → a ≡ false → a || b ≡ true → b ≡ true
in_it true b e f = absurd (true≢false e)
in_it false b e f = f

span_part : (r : Range) (first last : ℤ) (done : List (ℤ × ℤ)) (b : Bool) → int_lt last first ≡ b → are_parts r.low r.high done ≡ true
    → lies_in r (Values first last) ≡ true → are_parts r.low r.high (if b then done else done ++ (first, last) ∷ []) ≡ true
span_part r first last done true e p l = p
span_part r first last done false e p l =
    parts_onto r.low r.high done ((first, last) ∷ []) p
    (and_both (is_part r.low r.high (first, last)) true
    (and_both (int_le first last) (int_le r.low first && int_le last r.high) (not_null first last e) (in_it (int_lt last first) (int_le r.low first && int_le last r.high) e l)) refl)

choice_part : (r : Range) (c : Choice) (done : List (ℤ × ℤ)) → are_parts r.low r.high done ≡ true → lies_in r c ≡ true → are_parts r.low r.high (with_span c done) ≡ true
choice_part r (Values first last) done p l = span_part r first last done (int_lt last first) refl p l
choice_part r Others done p l = p

choices_parts : (r : Range) (cs : List Choice) (done : List (ℤ × ℤ)) → are_parts r.low r.high done ≡ true → all_lie_in r cs ≡ true
    → are_parts r.low r.high (spans_onto cs done) ≡ true
choices_parts r [] done p l = p
choices_parts r (c ∷ cs) done p l =
    let a = both (lies_in r c) (all_lie_in r cs) l in
    choices_parts r cs (with_span c done) (choice_part r c done p a.0) a.1

all_parts : (r : Range) (alternatives : Alternatives) (done : List (ℤ × ℤ)) → are_parts r.low r.high done ≡ true → lie_in r alternatives ≡ true
    → are_parts r.low r.high (all_spans alternatives done) ≡ true
all_parts r no_alternatives done p l = p
all_parts r (and_alternative cs ss more) done p l =
    let a = both (all_lie_in r cs) (lie_in r more) l in
    all_parts r more (spans_onto cs done) (choices_parts r cs done p a.0) a.1

pub parts_of : (r : Range) (alternatives : Alternatives) (spans : List (ℤ × ℤ)) → lie_in r alternatives ≡ true → spans ≡ all_spans alternatives []
    → are_parts r.low r.high spans ≡ true
parts_of r alternatives spans l is = ap (are_parts r.low r.high) is ∙ all_parts r alternatives [] refl l

-- What covers

in_all : (a b c d : Bool) → a ≡ true → b ≡ true → c ≡ d → c ≡ (a && b && d)
in_all true true c d e f is = is
in_all true false c d e f is = absurd (true≢false (sym f))
in_all false b c d e f is = absurd (true≢false (sym e))

-- spans of choices hold each value once exactly where the choices cover the range
pub covered : (r : Range) (alternatives : Alternatives) (spans : List (ℤ × ℤ)) (b : Bool) → others_last alternatives ≡ true → lie_in r alternatives ≡ true
    → spans ≡ all_spans alternatives [] → b ≡ each_once (with_others alternatives) r.low r.high spans → b ≡ covers r alternatives
unfolding covers each_once
covered r alternatives spans b o l is once =
    once ∙ same_each (λ z. counts (with_others alternatives) (spanned z spans)) (is_once alternatives) same r.low (how_many r.low r.high)
    ∙ in_all (others_last alternatives) (lie_in r alternatives) (each_from (is_once alternatives) r.low (how_many r.low r.high)) (each_from (is_once alternatives) r.low (how_many r.low r.high)) o l refl
  where
    same : (z : ℤ) → counts (with_others alternatives) (spanned z spans) ≡ is_once alternatives z
    same z = ap (counts (with_others alternatives)) (ap (spanned z) is ∙ all_count z alternatives [] ∙ none_and (times_in z alternatives))

-- the same as a caller has them

pub parts_in : (r : Range) (alternatives : Alternatives) (spans : List (ℤ × ℤ)) (low high : ℤ) → lie_in r alternatives ≡ true → spans ≡ all_spans alternatives []
    → low ≡ r.low → high ≡ r.high → are_parts low high spans ≡ true
parts_in r alternatives spans low high l is e f =
    ap (λ (z : ℤ). are_parts z high spans) e ∙ ap (λ (z : ℤ). are_parts r.low z spans) f ∙ parts_of r alternatives spans l is

holds_too : (a b c : Bool) → a ≡ true → c ≡ b → c ≡ (a && b)
holds_too true b c e is = is
holds_too false b c e is = absurd (true≢false (sym e))

pub covered_by : (r : Range) (alternatives : Alternatives) (spans : List (ℤ × ℤ)) (gaps : Bool) (low high : ℤ) (b : Bool) →
    int_lt r.high (pos 9223372036854775807) ≡ true → others_last alternatives ≡ true → lie_in r alternatives ≡ true → spans ≡ all_spans alternatives []
    → gaps ≡ with_others alternatives → low ≡ r.low → high ≡ r.high → b ≡ each_once gaps low high spans
    → b ≡ (int_lt r.high (pos 9223372036854775807) && covers r alternatives)
covered_by r alternatives spans gaps low high b end o l is g e f once =
    holds_too (int_lt r.high (pos 9223372036854775807)) (covers r alternatives) b end
    (covered r alternatives spans b o l is
    (once ∙ ap (λ (x : Bool). each_once x low high spans) g ∙ ap (λ (z : ℤ). each_once (with_others alternatives) z high spans) e
    ∙ ap (λ (z : ℤ). each_once (with_others alternatives) r.low z spans) f))
