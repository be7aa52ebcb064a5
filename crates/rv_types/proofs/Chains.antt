-- Spans in their order hold each value of a range once exactly where each begins where it has to.
use Rattle.std.proofs.Common.{◌≡◌, ℕ, zero, suc, ◌+◌, ◌<◌, ◌≤◌, ℤ, pos, negsuc, ◌+ℤ◌, ◌-ℤ◌, List, [], ◌∷◌, Bool, true, false, Option, Some, None, true≢false, refl, sym, ap, ◌∙◌, subst, arith, length, drop}
use Rattle.std.specs.Prelude.{◌-◌, slice_index_or, int_le, int_lt, ◌==◌, ◌&&◌, ◌||◌, if◌then◌else◌, unsigned_abs, sum_by, IsPermutation}
use Rattle.std.specs.List.Sorted.{IsSortedBy}
use Rattle.std.specs.Ordering.{is_lt, ordering_then, int_cmp}
use Rattle.std.specs.declared.cmp.Ordering.{Ordering}
use Rattle.std.specs.declared.cmp.Ordering.TheVariants.{Less, Equal, Greater}
use Rattle.std.proofs.lemmas.Int.{ints}
use Rattle.std.proofs.lemmas.Bool.Decides.{nat_tests}
use Rattle.std.proofs.lemmas.List.Sorted.{sum_by-IsPermutation}
use Rattle.std.proofs.lemmas.List.Sums.{sum_by-cons}
use Rattle.std.proofs.lemmas.Grind.{get_or_tail}
use Rattle.std.proofs.Math.Seq.{drop-cons}
use Rattle.std.proofs.lemmas.List.{drop_all}
use Rattle.rv_types.specs.Coverage.{how_many, each_from}
use Rattle.rv_types.specs.Spans.{is_part, are_parts, in_span, spanned, counts, begins, value_after, are_rising, each_once}

-- the values from a low one to a high one
record Between : Type 0 where
  low : ℤ
  high : ℤ

-- Truth values

pub both : (a b : Bool) → a && b ≡ true → (a ≡ true) × (b ≡ true)
both true b e = (refl, e)
both false b e = cc

pub and_both : (a b : Bool) → a ≡ true → b ≡ true → a && b ≡ true
and_both a b e f = cc

same_truth : (a b : Bool) → (a ≡ true → b ≡ true) → (b ≡ true → a ≡ true) → a ≡ b
same_truth true b f g = sym (f refl)
same_truth false true f g = g refl
same_truth false false f g = refl

-- Numbers

pub none_and : (n : ℕ) → 0 + n ≡ n
none_and n = omega arith

before : (z next low : ℤ) → int_lt z next ≡ true → int_lt low next ≡ false → int_lt z low ≡ true
before z next low e f = grind (arith, ints)

after : (z low high : ℤ) → int_lt z low ≡ true → int_le low high ≡ true → int_lt z (high +ℤ pos 1) ≡ true
after z low high e f = grind (arith, ints)

just_after : (z high : ℤ) → int_lt high z ≡ false → int_lt z (high +ℤ pos 1) ≡ true
just_after z high e = grind (arith, ints)

from_after : (z high : ℤ) → int_lt high z ≡ true → int_le (high +ℤ pos 1) z ≡ true
from_after z high e = grind (arith, ints)

behind : (z high : ℤ) → int_le (high +ℤ pos 1) z ≡ true → int_lt high z ≡ true
behind z high e = grind (arith, ints)

up_to : (z high : ℤ) → int_lt z (high +ℤ pos 1) ≡ true → int_le z high ≡ true
up_to z high e = grind (arith, ints)

not_before : (low z : ℤ) → int_lt z low ≡ false → int_le low z ≡ true
not_before low z e = grind (arith, ints)

not_under : (next low : ℤ) → int_lt low next ≡ false → int_le next low ≡ true
not_under next low e = grind (arith, ints)

starts : (next low : ℤ) → int_le next low ≡ true → int_lt low next ≡ false
starts next low e = grind (arith, ints)

through : (a b c : ℤ) → int_le a b ≡ true → int_le b c ≡ true → int_le a c ≡ true
through a b c e f = grind (arith, ints)

never : (next z high : ℤ) → int_le next z ≡ true → int_le z high ≡ true → int_lt high next ≡ true → ⊥
never next z high e f g = grind (arith, ints)

no_gap : (next z low : ℤ) → int_le next z ≡ true → int_lt z low ≡ true → int_le low next ≡ true → ⊥
no_gap next z low e f g = grind (arith, ints)

itself : (z : ℤ) → int_le z z ≡ true
itself z = grind (arith, ints)

-- A value in a span

pub outside : (a b : Bool) (n : ℕ) → a ≡ false → (if a && b then n else 0) ≡ 0
outside true b n e = cc
outside false b n e = refl

pub past : (a b : Bool) (n : ℕ) → b ≡ false → (if a && b then n else 0) ≡ 0
past true true n e = cc
past true false n e = refl
past false b n e = refl

within : (a b : Bool) (n : ℕ) → a ≡ true → b ≡ true → (if a && b then n else 0) ≡ n
within true true n e f = refl
within true false n e f = cc
within false b n e f = cc

not_le : (a b : ℤ) → int_lt b a ≡ true → int_le a b ≡ false
not_le a b e = grind (arith, ints)

is_before : (z : ℤ) (s : ℤ × ℤ) → int_lt z s.0 ≡ true → in_span z s ≡ 0
is_before z s e = outside (int_le s.0 z) (int_le z s.1) 1 (not_le s.0 z e)

is_behind : (z : ℤ) (s : ℤ × ℤ) → int_lt s.1 z ≡ true → in_span z s ≡ 0
is_behind z s e = past (int_le s.0 z) (int_le z s.1) 1 (not_le z s.1 e)

is_inside : (z : ℤ) (s : ℤ × ℤ) → int_le s.0 z ≡ true → int_le z s.1 ≡ true → in_span z s ≡ 1
is_inside z s e f = within (int_le s.0 z) (int_le z s.1) 1 e f

-- one span, and the others
pub spanned_more : (z : ℤ) (s : ℤ × ℤ) (more : List (ℤ × ℤ)) (n m : ℕ) → in_span z s ≡ n → spanned z more ≡ m → spanned z (s ∷ more) ≡ n + m
spanned_more z s more n m e f = sum_by-cons (in_span z) s more ∙ ap (λ x. x + spanned z more) e ∙ ap (λ x. n + x) f

-- Parts of a range

record Part (r : Between) (s : ℤ × ℤ) (more : List (ℤ × ℤ)) : Type 0 where
  is_span : int_le s.0 s.1 ≡ true
  low : int_le r.low s.0 ≡ true
  high : int_le s.1 r.high ≡ true
  others : are_parts r.low r.high more ≡ true

part : (r : Between) (s : ℤ × ℤ) (more : List (ℤ × ℤ)) → are_parts r.low r.high (s ∷ more) ≡ true → Part r s more
part r s more e =
    let a = both (is_part r.low r.high s) (are_parts r.low r.high more) e in
    let b = both (int_le s.0 s.1) (int_le r.low s.0 && int_le s.1 r.high) a.0 in
    let c = both (int_le r.low s.0) (int_le s.1 r.high) b.1 in
    record { is_span = b.0; low = c.0; high = c.1; others = a.1 }

abbrev bad : Between → (ℤ × ℤ) → ℕ
bad r s = if is_part r.low r.high s then 0 else 1

bad_is : (b : Bool) (n : ℕ) → b ≡ true → (if b then 0 else n) ≡ 0
bad_is true n e = refl
bad_is false n e = cc

is_good : (b : Bool) (n m : ℕ) → n ≡ (if b then 0 else 1) → n + m ≡ 0 → (b ≡ true) × (m ≡ 0)
is_good true n m i e = (refl, omega (arith, i, e))
is_good false n m i e = absurd (one_and n m i e)
  where
    one_and : (n m : ℕ) → n ≡ 1 → n + m ≡ 0 → ⊥
    one_and n m i e = omega (arith, i, e)

none_bad : (r : Between) (spans : List (ℤ × ℤ)) → are_parts r.low r.high spans ≡ true → sum_by (bad r) spans ≡ 0
none_bad r [] e = refl
none_bad r (s ∷ more) e =
    let a = both (is_part r.low r.high s) (are_parts r.low r.high more) e in
    sum_by-cons (bad r) s more ∙ ap (λ x. x + sum_by (bad r) more) (bad_is (is_part r.low r.high s) 1 a.0) ∙ none_and (sum_by (bad r) more) ∙ none_bad r more a.1

all_good : (r : Between) (spans : List (ℤ × ℤ)) → sum_by (bad r) spans ≡ 0 → are_parts r.low r.high spans ≡ true
all_good r [] e = refl
all_good r (s ∷ more) e =
    let a = is_good (is_part r.low r.high s) (bad r s) (sum_by (bad r) more) refl (sym (sum_by-cons (bad r) s more) ∙ e) in
    and_both (is_part r.low r.high s) (are_parts r.low r.high more) a.0 (all_good r more a.1)

-- Spans in their order

next_of : (s : ℤ × ℤ) (spans : List (ℤ × ℤ)) (k : ℕ) (d : ℤ × ℤ) → slice_index_or spans k d ≡ slice_index_or (s ∷ spans) (k + 1) d
next_of s spans k d = ap (λ i. slice_index_or spans i d) (one_less k) ∙ sym (get_or_tail s spans (k + 1) d (omega arith))
  where
    one_less : (k : ℕ) → k ≡ k + 1 - 1
    one_less k = omega arith

sorted_more : (lt : (ℤ × ℤ) → (ℤ × ℤ) → Bool) (s : ℤ × ℤ) (spans : List (ℤ × ℤ)) → IsSortedBy lt (s ∷ spans) → IsSortedBy lt spans
sorted_more lt s spans up k d a b =
    ap (λ x. lt x (slice_index_or spans k d)) (next_of s spans (k + 1) d)
    ∙ ap (λ y. lt (slice_index_or (s ∷ spans) (k + 1 + 1) d) y) (next_of s spans k d)
    ∙ up (k + 1) d (omega arith) (longer (length spans) k b)
  where
    longer : (n k : ℕ) → k + 1 < n → k + 1 + 1 < suc n
    longer n k b = omega (arith, b)

first_not_less : (o p : Ordering) → is_lt (ordering_then o p) ≡ false → is_lt o ≡ false
first_not_less Less p e = e
first_not_less Equal p e = refl
first_not_less Greater p e = refl

by_firsts : (s t : ℤ × ℤ) → is_lt (ordering_then (int_cmp s.0 t.0) (int_cmp s.1 t.1)) ≡ false → int_lt s.0 t.0 ≡ false
by_firsts s t e = plainly s.0 t.0 (first_not_less (int_cmp s.0 t.0) (int_cmp s.1 t.1) e)
  where
    plainly : (a b : ℤ) → is_lt (int_cmp a b) ≡ false → int_lt a b ≡ false
    plainly a b e = grind (arith, ints)

pub rising : (lt : (ℤ × ℤ) → (ℤ × ℤ) → Bool) → ((s t : ℤ × ℤ) → lt s t ≡ false → int_lt s.0 t.0 ≡ false) →
    (spans : List (ℤ × ℤ)) → IsSortedBy lt spans → are_rising spans ≡ true
rising lt h [] up = refl
rising lt h (s ∷ []) up = refl
rising lt h (s ∷ t ∷ more) up =
    and_both (int_le s.0 t.0) (are_rising (t ∷ more)) (not_under s.0 t.0 (h t s (up 0 s (omega arith) (two (length more)))))
    (rising lt h (t ∷ more) (sorted_more lt s (t ∷ more) up))
  where
    two : (n : ℕ) → 0 + 1 < suc (suc n)
    two n = omega arith

none_before : (z : ℤ) (s : ℤ × ℤ) (more : List (ℤ × ℤ)) → are_rising (s ∷ more) ≡ true → int_lt z s.0 ≡ true → spanned z (s ∷ more) ≡ 0
none_before z s [] up l = spanned_more z s [] 0 0 (is_before z s l) refl
none_before z s (t ∷ more) up l =
    let a = both (int_le s.0 t.0) (are_rising (t ∷ more)) up in
    spanned_more z s (t ∷ more) 0 0 (is_before z s l) (none_before z t more a.1 (before z s.0 t.0 l (starts s.0 t.0 a.0)))

rising_more : (s : ℤ × ℤ) (more : List (ℤ × ℤ)) → are_rising (s ∷ more) ≡ true → are_rising more ≡ true
rising_more s [] up = refl
rising_more s (t ∷ more) up = (both (int_le s.0 t.0) (are_rising (t ∷ more)) up).1

-- Chains

-- each span begins where it has to, from a value on up to a high one
abbrev pub is_chain : Bool → ℤ → Option ℤ → List (ℤ × ℤ) → Bool
is_chain gaps high None spans = false
is_chain gaps high (Some next) [] = gaps || int_lt high next
is_chain gaps high (Some next) (s ∷ more) = is_chain gaps high (value_after gaps next s) more

record Link (gaps : Bool) (high next : ℤ) (s : ℤ × ℤ) (more : List (ℤ × ℤ)) : Type 0 where
  here : int_le next s.0 ≡ true
  no_gap : gaps || int_le s.0 next ≡ true
  goes_on : is_chain gaps high (Some (s.1 +ℤ pos 1)) more ≡ true

abbrev last : ℤ
last = pos 9223372036854775807

goes : (gaps : Bool) (high next : ℤ) (s : ℤ × ℤ) (more : List (ℤ × ℤ)) (b : Bool) → begins gaps next s.0 && int_lt s.1 last ≡ b
    → is_chain gaps high (if b then Some (s.1 +ℤ pos 1) else None) more ≡ true → Link gaps high next s more
goes gaps high next s more true is e =
    let b = both (int_le next s.0) (gaps || int_le s.0 next) (both (begins gaps next s.0) (int_lt s.1 last) is).0 in
    record { here = b.0; no_gap = b.1; goes_on = e }
goes gaps high next s more false is e = absurd (true≢false (sym e))

link : (gaps : Bool) (high next : ℤ) (s : ℤ × ℤ) (more : List (ℤ × ℤ)) → is_chain gaps high (Some next) (s ∷ more) ≡ true → Link gaps high next s more
link gaps high next s more e = goes gaps high next s more (begins gaps next s.0 && int_lt s.1 last) refl e

goes_on : (gaps : Bool) (high : ℤ) (s : ℤ × ℤ) (more : List (ℤ × ℤ)) (b : Bool) → b ≡ true
    → is_chain gaps high (Some (s.1 +ℤ pos 1)) more ≡ true → is_chain gaps high (if b then Some (s.1 +ℤ pos 1) else None) more ≡ true
goes_on gaps high s more true is e = e
goes_on gaps high s more false is e = absurd (true≢false (sym is))

none_below : (r : Between) (gaps : Bool) (next z : ℤ) (spans : List (ℤ × ℤ)) → are_parts r.low r.high spans ≡ true → is_chain gaps r.high (Some next) spans ≡ true
    → int_lt z next ≡ true → spanned z spans ≡ 0
none_below r gaps next z [] p e l = refl
none_below r gaps next z (s ∷ more) p e l =
    let k = link gaps r.high next s more e in
    let q = part r s more p in
    let lower = before z next s.0 l (starts next s.0 k.here) in
    spanned_more z s more 0 0 (is_before z s lower) (none_below r gaps (s.1 +ℤ pos 1) z more q.others k.goes_on (after z s.0 s.1 lower q.is_span))

counts_at : (gaps : Bool) (n m : ℕ) → m ≡ n → counts gaps n ≡ true → counts gaps m ≡ true
counts_at gaps n m e h = ap (counts gaps) e ∙ h

in_gap : (gaps : Bool) (next z low : ℤ) → gaps || int_le low next ≡ true → int_le next z ≡ true → int_lt z low ≡ true → counts gaps 0 ≡ true
in_gap true next z low e f g = refl
in_gap false next z low e f g = absurd (no_gap next z low f g e)

no_more : (gaps : Bool) (high next z : ℤ) → gaps || int_lt high next ≡ true → int_le next z ≡ true → int_le z high ≡ true → counts gaps 0 ≡ true
no_more true high next z e f g = refl
no_more false high next z e f g = absurd (never next z high f g e)

-- the value is before the first span, in it, or behind it
behind_low : (r : Between) (gaps : Bool) (next z : ℤ) (s : ℤ × ℤ) (more : List (ℤ × ℤ)) → Part r s more → Link gaps r.high next s more → int_le s.0 z ≡ true
    → (int_le (s.1 +ℤ pos 1) z ≡ true → counts gaps (spanned z more) ≡ true) → (b : Bool) → int_lt s.1 z ≡ b → counts gaps (spanned z (s ∷ more)) ≡ true
behind_low r gaps next z s more q k low again true is =
    counts_at gaps (spanned z more) (spanned z (s ∷ more)) (spanned_more z s more 0 (spanned z more) (is_behind z s is) refl ∙ none_and (spanned z more))
    (again (from_after z s.1 is))
behind_low r gaps next z s more q k low again false is =
    counts_at gaps 1 (spanned z (s ∷ more))
    (spanned_more z s more 1 0 (is_inside z s low (not_before z s.1 is))
    (none_below r gaps (s.1 +ℤ pos 1) z more q.others k.goes_on (just_after z s.1 is))) refl

at_low : (r : Between) (gaps : Bool) (next z : ℤ) (s : ℤ × ℤ) (more : List (ℤ × ℤ)) → Part r s more → Link gaps r.high next s more → int_le next z ≡ true
    → (int_le (s.1 +ℤ pos 1) z ≡ true → counts gaps (spanned z more) ≡ true) → (b : Bool) → int_lt z s.0 ≡ b → counts gaps (spanned z (s ∷ more)) ≡ true
at_low r gaps next z s more q k f again true is =
    counts_at gaps 0 (spanned z (s ∷ more))
    (spanned_more z s more 0 0 (is_before z s is) (none_below r gaps (s.1 +ℤ pos 1) z more q.others k.goes_on (after z s.0 s.1 is q.is_span)))
    (in_gap gaps next z s.0 k.no_gap f is)
at_low r gaps next z s more q k f again false is = behind_low r gaps next z s more q k (not_before s.0 z is) again (int_lt s.1 z) refl

-- of a chain each value is in one span
once : (r : Between) (gaps : Bool) (next z : ℤ) (spans : List (ℤ × ℤ)) → are_parts r.low r.high spans ≡ true → is_chain gaps r.high (Some next) spans ≡ true
    → int_le next z ≡ true → int_le z r.high ≡ true → counts gaps (spanned z spans) ≡ true
once r gaps next z [] p e f g = no_more gaps r.high next z e f g
once r gaps next z (s ∷ more) p e f g =
    let k = link gaps r.high next s more e in
    let q = part r s more p in
    at_low r gaps next z s more q k f (λ h. once r gaps (s.1 +ℤ pos 1) z more q.others k.goes_on h g) (int_lt z s.0) refl

-- Where each value is in one span, these are a chain

-- from a value on each is in one span, and none below is in any
record Covers (r : Between) (gaps : Bool) (next : ℤ) (spans : List (ℤ × ℤ)) : Type 0 where
  parts : are_parts r.low r.high spans ≡ true
  up : are_rising spans ≡ true
  end : int_lt r.high last ≡ true
  below : (z : ℤ) → int_lt z next ≡ true → spanned z spans ≡ 0
  here : (z : ℤ) → int_le next z ≡ true → int_le z r.high ≡ true → counts gaps (spanned z spans) ≡ true

one_more : (n m : ℕ) → n ≡ 1 + m → n ≡ 0 → ⊥
one_more n m e f = omega (arith, e, f)

-- the first span begins at the value or behind it
begins_at : (r : Between) (gaps : Bool) (next : ℤ) (s : ℤ × ℤ) (more : List (ℤ × ℤ)) → Covers r gaps next (s ∷ more) → (b : Bool) → int_lt s.0 next ≡ b → b ≡ false
begins_at r gaps next s more c false e = refl
begins_at r gaps next s more c true e =
    absurd (one_more (spanned s.0 (s ∷ more)) (spanned s.0 more)
    (spanned_more s.0 s more 1 (spanned s.0 more) (is_inside s.0 s (itself s.0) (part r s more c.parts).is_span) refl) (c.below s.0 e))

not_counted : (gaps a b : Bool) → a ≡ false → gaps && b ≡ false → a || (gaps && b) ≡ true → ⊥
not_counted gaps true b e f g = absurd (true≢false e)
not_counted gaps false b e f g = absurd (true≢false (sym g ∙ f))

none_counts : (n : ℕ) → n ≡ 0 → counts false n ≡ true → ⊥
none_counts n e f = not_counted false (n == 1) (n == 0) (is n e) refl f
  where
    is : (n : ℕ) → n ≡ 0 → n == 1 ≡ false
    is n e = grind (arith, nat_tests)

before_first : (next low : ℤ) → int_lt next low ≡ true → int_le next low ≡ true
before_first next low e = grind (arith, ints)

-- and not behind it where there may be no gaps
begins_there : (r : Between) (gaps : Bool) (next : ℤ) (s : ℤ × ℤ) (more : List (ℤ × ℤ)) → Covers r gaps next (s ∷ more)
    → (b : Bool) → int_lt next s.0 ≡ b → gaps || int_le s.0 next ≡ true
begins_there r true next s more c b e = refl
begins_there r false next s more c false e = not_before s.0 next e
begins_there r false next s more c true e =
    let q = part r s more c.parts in
    absurd (none_counts (spanned next (s ∷ more)) (none_before next s more c.up e)
    (c.here next (itself next) (through next s.0 r.high (before_first next s.0 e) (through s.0 s.1 r.high q.is_span q.high))))

-- what a value counts in the others, where it counts once in all and is in the first
rest_none : (gaps : Bool) (n m : ℕ) → n ≡ 1 + m → counts gaps n ≡ true → m ≡ 0
rest_none gaps n zero e f = refl
rest_none gaps n (suc m) e f = absurd (not_counted gaps (n == 1) (n == 0) (not_one n m e) (not_none gaps (n == 0) (not_zero n m e)) f)
  where
    not_one : (n m : ℕ) → n ≡ 1 + suc m → n == 1 ≡ false
    not_one n m e = grind (arith, nat_tests)

    not_zero : (n m : ℕ) → n ≡ 1 + suc m → n == 0 ≡ false
    not_zero n m e = grind (arith, nat_tests)

    not_none : (gaps b : Bool) → b ≡ false → gaps && b ≡ false
    not_none true b e = e
    not_none false b e = refl

-- the others cover what is behind the first
below_more : (r : Between) (gaps : Bool) (next z : ℤ) (s : ℤ × ℤ) (more : List (ℤ × ℤ)) → Covers r gaps next (s ∷ more)
    → int_lt z (s.1 +ℤ pos 1) ≡ true → (b : Bool) → int_lt z s.0 ≡ b → spanned z more ≡ 0
below_more r gaps next z s more c l true e =
    sym (spanned_more z s more 0 (spanned z more) (is_before z s e) refl ∙ none_and (spanned z more)) ∙ none_before z s more c.up e
below_more r gaps next z s more c l false e =
    let q = part r s more c.parts in
    let low : int_le s.0 z ≡ true = not_before s.0 z e in
    let high : int_le z s.1 ≡ true = up_to z s.1 l in
    rest_none gaps (spanned z (s ∷ more)) (spanned z more) (spanned_more z s more 1 (spanned z more) (is_inside z s low high) refl)
    (c.here z (through next s.0 z (not_before next s.0 (begins_at r gaps next s more c (int_lt s.0 next) refl)) low) (through z s.1 r.high high q.high))

covers_more : (r : Between) (gaps : Bool) (next : ℤ) (s : ℤ × ℤ) (more : List (ℤ × ℤ)) → Covers r gaps next (s ∷ more) → Covers r gaps (s.1 +ℤ pos 1) more
covers_more r gaps next s more c =
    let q = part r s more c.parts in
    record {
      parts = q.others;
      up = rising_more s more c.up;
      end = c.end;
      below = λ z l. below_more r gaps next z s more c l (int_lt z s.0) refl;
      here = λ z low high.
          counts_at gaps (spanned z (s ∷ more)) (spanned z more)
          (sym (spanned_more z s more 0 (spanned z more) (is_behind z s (behind z s.1 low)) refl ∙ none_and (spanned z more)))
          (c.here z (through next (s.1 +ℤ pos 1) z (later next s.0 s.1 (begins_at r gaps next s more c (int_lt s.0 next) refl) q.is_span) low) high);
    }
  where
    later : (next low high : ℤ) → int_lt low next ≡ false → int_le low high ≡ true → int_le next (high +ℤ pos 1) ≡ true
    later next low high e f = grind (arith, ints)

ended : (r : Between) (gaps : Bool) (next : ℤ) → Covers r gaps next [] → (b : Bool) → int_lt r.high next ≡ b → gaps || b ≡ true
ended r true next c b e = refl
ended r false next c true e = refl
ended r false next c false e = absurd (none_counts 0 refl (c.here next (itself next) (not_before next r.high e)))

chained : (r : Between) (gaps : Bool) (next : ℤ) (spans : List (ℤ × ℤ)) → Covers r gaps next spans → is_chain gaps r.high (Some next) spans ≡ true
chained r gaps next [] c = ended r gaps next c (int_lt r.high next) refl
chained r gaps next (s ∷ more) c =
    let q = part r s more c.parts in
    goes_on gaps r.high s more (begins gaps next s.0 && int_lt s.1 last)
    (and_both (begins gaps next s.0) (int_lt s.1 last)
    (and_both (int_le next s.0) (gaps || int_le s.0 next)
    (not_before next s.0 (begins_at r gaps next s more c (int_lt s.0 next) refl)) (begins_there r gaps next s more c (int_lt next s.0) refl))
    (under s.1 r.high last q.high c.end))
    (chained r gaps (s.1 +ℤ pos 1) more (covers_more r gaps next s more c))
  where
    under : (a b c : ℤ) → int_le a b ≡ true → int_lt b c ≡ true → int_lt a c ≡ true
    under a b c e f = grind (arith, ints)

-- Each value of a range

pub each_is : (test : ℤ → Bool) (z : ℤ) (n : ℕ) → ((y : ℤ) → int_le z y ≡ true → int_lt y (z +ℤ pos n) ≡ true → test y ≡ true) → each_from test z n ≡ true
each_is test z zero f = refl
each_is test z (suc n) f =
    and_both (test z) (each_from test (z +ℤ pos 1) n) (f z (itself z) (first z n))
    (each_is test (z +ℤ pos 1) n (λ y a b. f y (later z y a) (sooner z y n b)))
  where
    first : (z : ℤ) (n : ℕ) → int_lt z (z +ℤ pos (suc n)) ≡ true
    first z n = grind (arith, ints)

    later : (z y : ℤ) → int_le (z +ℤ pos 1) y ≡ true → int_le z y ≡ true
    later z y a = grind (arith, ints)

    sooner : (z y : ℤ) (n : ℕ) → int_lt y ((z +ℤ pos 1) +ℤ pos n) ≡ true → int_lt y (z +ℤ pos (suc n)) ≡ true
    sooner z y n b = grind (arith, ints)

-- the value is the first, or a later one
by_first : (test : ℤ → Bool) (z y : ℤ) → int_le z y ≡ true → test z ≡ true → (int_le (z +ℤ pos 1) y ≡ true → test y ≡ true)
    → (c : Bool) → int_lt z y ≡ c → test y ≡ true
by_first test z y a here again true is = again (later z y is)
  where
    later : (z y : ℤ) → int_lt z y ≡ true → int_le (z +ℤ pos 1) y ≡ true
    later z y is = grind (arith, ints)
by_first test z y a here again false is = ap (λ (x : ℤ). test x) (sym (at_first z y a is)) ∙ here
  where
    at_first : (z y : ℤ) → int_le z y ≡ true → int_lt z y ≡ false → z ≡ y
    at_first z y a is = grind (arith, ints)

no_values : (z y : ℤ) → int_le z y ≡ true → int_lt y (z +ℤ pos 0) ≡ true → ⊥
no_values z y a b = grind (arith, ints)

one_fewer : (z y : ℤ) (n : ℕ) → int_lt y (z +ℤ pos (suc n)) ≡ true → int_lt y ((z +ℤ pos 1) +ℤ pos n) ≡ true
one_fewer z y n b = grind (arith, ints)

is_each : (test : ℤ → Bool) (z : ℤ) (n : ℕ) → each_from test z n ≡ true → (y : ℤ) → int_le z y ≡ true → int_lt y (z +ℤ pos n) ≡ true → test y ≡ true
is_each test z zero e y a b = absurd (no_values z y a b)
is_each test z (suc n) e y a b =
    let parts = both (test z) (each_from test (z +ℤ pos 1) n) e in
    by_first test z y a parts.0 (λ c. is_each test (z +ℤ pos 1) n parts.1 y c (one_fewer z y n b)) (int_lt z y) refl

last_is : (low high y d : ℤ) → d ≡ high -ℤ low → int_lt high low ≡ false → int_lt y (low +ℤ pos (unsigned_abs d + 1)) ≡ true → int_le y high ≡ true
last_is low high y (pos k) e f g = grind (arith, ints)
last_is low high y (negsuc k) e f g = grind (arith, ints)

in_range : (r : Between) (y : ℤ) (b : Bool) → int_lt r.high r.low ≡ b → int_le r.low y ≡ true
    → int_lt y (r.low +ℤ pos (if b then 0 else unsigned_abs (r.high -ℤ r.low) + 1)) ≡ true → int_le y r.high ≡ true
in_range r y true e f g = grind (arith, ints)
in_range r y false e f g = last_is r.low r.high y (r.high -ℤ r.low) refl e g

first_are : (low high y d : ℤ) → d ≡ high -ℤ low → int_lt high low ≡ false → int_le y high ≡ true → int_lt y (low +ℤ pos (unsigned_abs d + 1)) ≡ true
first_are low high y (pos k) e f g = grind (arith, ints)
first_are low high y (negsuc k) e f g = grind (arith, ints)

of_range : (r : Between) (y : ℤ) (b : Bool) → int_lt r.high r.low ≡ b → int_le r.low y ≡ true → int_le y r.high ≡ true
    → int_lt y (r.low +ℤ pos (if b then 0 else unsigned_abs (r.high -ℤ r.low) + 1)) ≡ true
of_range r y true e f g = grind (arith, ints)
of_range r y false e f g = first_are r.low r.high y (r.high -ℤ r.low) refl e g

-- no value below the range is in a part of it
none_under : (r : Between) (z : ℤ) (spans : List (ℤ × ℤ)) → are_parts r.low r.high spans ≡ true → int_lt z r.low ≡ true → spanned z spans ≡ 0
none_under r z [] p l = refl
none_under r z (s ∷ more) p l =
    let q = part r s more p in
    spanned_more z s more 0 0 (is_before z s (before z r.low s.0 l (starts r.low s.0 q.low))) (none_under r z more q.others l)

-- spans in their order are a chain exactly where each value is in one of them
decided : (r : Between) (gaps : Bool) (spans : List (ℤ × ℤ)) → are_parts r.low r.high spans ≡ true → are_rising spans ≡ true → int_lt r.high last ≡ true →
    is_chain gaps r.high (Some r.low) spans ≡ each_once gaps r.low r.high spans
unfolding each_once
decided r gaps spans parts up end = same_truth (is_chain gaps r.high (Some r.low) spans) (each_from test r.low (how_many r.low r.high)) forth back
  where
    test : ℤ → Bool
    test z = counts gaps (spanned z spans)

    forth : is_chain gaps r.high (Some r.low) spans ≡ true → each_from test r.low (how_many r.low r.high) ≡ true
    forth chain =
        each_is test r.low (how_many r.low r.high) (λ y a b.
        once r gaps r.low y spans parts chain a (in_range r y (int_lt r.high r.low) refl a b))

    back : each_from test r.low (how_many r.low r.high) ≡ true → is_chain gaps r.high (Some r.low) spans ≡ true
    back each =
        chained r gaps r.low spans (record {
          parts = parts;
          up = up;
          end = end;
          below = λ z l. none_under r z spans parts l;
          here = λ z low high. is_each test r.low (how_many r.low r.high) each z low (of_range r z (int_lt r.high r.low) refl low high);
        })

pub judged : (gaps : Bool) (low high : ℤ) (spans : List (ℤ × ℤ)) (b : Bool) → are_parts low high spans ≡ true → are_rising spans ≡ true
    → int_lt high (pos 9223372036854775807) ≡ true → b ≡ is_chain gaps high (Some low) spans → b ≡ each_once gaps low high spans
judged gaps low high spans b parts up end is = is ∙ decided (record { low = low; high = high }) gaps spans parts up end

-- Spans in another order

pub still_parts : (low high : ℤ) (given sorted : List (ℤ × ℤ)) → IsPermutation given sorted → are_parts low high given ≡ true → are_parts low high sorted ≡ true
still_parts low high given sorted p e =
    let r : Between = record { low = low; high = high } in
    all_good r sorted (sum_by-IsPermutation (bad r) given sorted p ∙ none_bad r given e)

pub same_each : (f g : ℤ → Bool) → ((z : ℤ) → f z ≡ g z) → (z : ℤ) (n : ℕ) → each_from f z n ≡ each_from g z n
same_each f g h z zero = refl
same_each f g h z (suc n) = ap (λ b. b && each_from f (z +ℤ pos 1) n) (h z) ∙ ap (λ b. g z && b) (same_each f g h (z +ℤ pos 1) n)

pub same_once : (gaps : Bool) (low high : ℤ) (given sorted : List (ℤ × ℤ)) (b : Bool) → IsPermutation given sorted
    → b ≡ each_once gaps low high sorted → b ≡ each_once gaps low high given
unfolding each_once
same_once gaps low high given sorted b p is =
    is ∙ same_each (λ z. counts gaps (spanned z sorted)) (λ z. counts gaps (spanned z given))
    (λ z. ap (counts gaps) (sum_by-IsPermutation (in_span z) given sorted p)) low (how_many low high)

-- The steps of a walk over a chain

one_on : (gaps : Bool) (high next : ℤ) (items : List (ℤ × ℤ)) (k : ℕ) (d : ℤ × ℤ) → k < length items →
    is_chain gaps high (Some next) (drop k items) ≡ is_chain gaps high (value_after gaps next (slice_index_or items k d)) (drop (suc k) items)
one_on gaps high next items k d there = ap (λ x. is_chain gaps high (Some next) x) (drop-cons items k d there)

module _ (gaps : Bool) (high low next : ℤ) (xs ys : List (ℤ × ℤ)) (same : ys ≡ xs) (k : ℕ) where
  on_same : (d : ℤ × ℤ) (o : Option ℤ) → k < length ys → o ≡ value_after gaps next (slice_index_or ys k d)
      → is_chain gaps high (Some next) (drop k xs) ≡ is_chain gaps high o (drop (suc k) xs)
  on_same d o there is =
      one_on gaps high next xs k d (subst (λ (l : List (ℤ × ℤ)). k < length l) same there)
      ∙ ap (λ x. is_chain gaps high x (drop (suc k) xs)) (sym (is ∙ ap (λ (l : List (ℤ × ℤ)). value_after gaps next (slice_index_or l k d)) same))

  pub stops : (d : ℤ × ℤ) (o : Option ℤ) → k < length ys → is_chain gaps high (Some next) (drop k xs) ≡ is_chain gaps high (Some low) xs →
      o ≡ value_after gaps next (slice_index_or ys k d) → o ≡ None → false ≡ is_chain gaps high (Some low) xs
  stops d o there so is none = ap (λ x. is_chain gaps high x (drop (suc k) xs)) (sym none) ∙ sym (on_same d o there is) ∙ so

  pub goes_behind : (behind : ℤ) (d : ℤ × ℤ) (o : Option ℤ) → k < length ys → is_chain gaps high (Some next) (drop k xs) ≡ is_chain gaps high (Some low) xs →
      o ≡ value_after gaps next (slice_index_or ys k d) → o ≡ Some behind →
      is_chain gaps high (Some behind) (drop (k + 1) xs) ≡ is_chain gaps high (Some low) xs
  goes_behind behind d o there so is some =
      ap (λ n. is_chain gaps high (Some behind) (drop n xs)) one_behind
      ∙ ap (λ x. is_chain gaps high x (drop (suc k) xs)) (sym some) ∙ sym (on_same d o there is) ∙ so
    where
      one_behind : k + 1 ≡ suc k
      one_behind = omega arith

  pub at_end : length ys ≤ k → is_chain gaps high (Some next) (drop k xs) ≡ is_chain gaps high (Some low) xs → gaps || int_lt high next ≡ is_chain gaps high (Some low) xs
  at_end over so =
      ap (λ x. is_chain gaps high (Some next) x) (sym (drop_all k xs (subst (λ (l : List (ℤ × ℤ)). length l ≤ k) same over))) ∙ so

pub chain_of : (gaps : Bool) (high high' low low' : ℤ) (xs : List (ℤ × ℤ)) → high ≡ high' → low ≡ low' →
    is_chain gaps high (Some low) xs ≡ is_chain gaps high' (Some low') xs
chain_of gaps high high' low low' xs e f = ap (λ (z : ℤ). is_chain gaps z (Some low) xs) e ∙ ap (λ (z : ℤ). is_chain gaps high' (Some z) xs) f

pub is_gap : (g b c : Bool) → g ≡ true → g || b ≡ c → g ≡ c
is_gap true b c e f = f
is_gap false b c e f = absurd (true≢false (sym e))

pub no_gaps : (g b c : Bool) → g ≡ false → g || b ≡ c → b ≡ c
no_gaps true b c e f = absurd (true≢false e)
no_gaps false b c e f = f

-- spans sorted by their two values
pub sorted_rising : (spans : List (ℤ × ℤ)) → IsSortedBy (λ s t. is_lt (ordering_then (int_cmp s.0 t.0) (int_cmp s.1 t.1))) spans → are_rising spans ≡ true
sorted_rising spans up = rising (λ s t. is_lt (ordering_then (int_cmp s.0 t.0) (int_cmp s.1 t.1))) by_firsts spans up
