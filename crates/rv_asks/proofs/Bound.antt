-- Parameters: the values that they take, and those that they give back.
use Rattle.std.proofs.Common.{◌≡◌, ℕ, zero, suc, ◌+◌, ◌≤◌, ◌<◌, ℤ, pos, Bool, true, false, cond, List, [], ◌∷◌, ◌++◌, length, map, filter, replicate, Option, Some, None, refl, sym, ap, ◌∙◌, subst, arith, append_assoc, append-nil}
use Rattle.std.specs.Prelude.{◌||◌, slice_get, slice_set, slice_index_or}
use Rattle.std.proofs.lemmas.List.{length-append, length-set}
use Rattle.rv_shape.specs.declared.kind.Parameter.{Parameter}
use Rattle.rv_shape.specs.declared.kind.ParameterMode.{ParameterMode}
use Rattle.rv_shape.specs.declared.kind.ParameterMode.TheVariants.{In, Out, InOut}
use Rattle.rv_shape.specs.declared.kind.Range.{Range}
use Rattle.rv_shape.specs.declared.kind.ValueType.{ValueType}
use Rattle.rv_shape.specs.declared.kind.ValueType.TheVariants.{Integer, Boolean, Time, TimeSpan}
use Rattle.rv_shape.specs.Kinds.{holds, goes_in, goes_out}
use Rattle.rv_history.specs.Fitting.{all_fit, ranges_in, ranges_out}
use Rattle.rv_fits.proofs.Both.{first_of_both, second_of_both, both_hold}
use Rattle.rv_ranged.specs.Ranged.{first_of, same_mode, parameter_fits, parameters_fit}
use Rattle.rv_exec.specs.Activations.{joined, first_value, start_of, next_given, bound, given_back}
use Rattle.rv_asks.proofs.Passed.{joined_is}
use Rattle.rv_asks.proofs.Values.{KeptSlots}

in_same : (m n : ParameterMode) → same_mode m n ≡ true → goes_in m ≡ goes_in n
in_same In In e = refl
in_same In Out e = absurd (cc e)
in_same In InOut e = absurd (cc e)
in_same Out In e = absurd (cc e)
in_same Out Out e = refl
in_same Out InOut e = absurd (cc e)
in_same InOut In e = absurd (cc e)
in_same InOut Out e = absurd (cc e)
in_same InOut InOut e = refl

out_same : (m n : ParameterMode) → same_mode m n ≡ true → goes_out m ≡ goes_out n
out_same In In e = refl
out_same In Out e = absurd (cc e)
out_same In InOut e = absurd (cc e)
out_same Out In e = absurd (cc e)
out_same Out Out e = refl
out_same Out InOut e = absurd (cc e)
out_same InOut In e = absurd (cc e)
out_same InOut Out e = absurd (cc e)
out_same InOut InOut e = refl

first_same : (t : ValueType) (low : ℤ) → first_of t low ≡ first_value t low
first_same Integer low = refl
first_same Boolean low = refl
first_same Time low = refl
first_same TimeSpan low = refl

-- What is given back

longer : (before : List ℤ) (v : ℤ) (ps : List Parameter) (p : Parameter) → length before + length (p ∷ ps) ≤ 4 → length (joined before v) + length ps ≤ 4
longer before v ps p few =
    let less : length before < 4 = omega (arith, few) in
    let long : length (joined before v) ≡ length before + 1 = ap length (joined_is before v less) ∙ length-append before (v ∷ []) in
    omega (arith, long, few)

-- parameters from a slot on keep to their ranges
abbrev KeptFrom : List Parameter → ℕ → List ℤ → Type 0
KeptFrom ps slot slots = (i : ℕ) (p : Parameter) → slice_get ps i ≡ Some p → holds p.range (slice_index_or slots (slot + i) (pos 0)) ≡ true

kept_rest : (p : Parameter) (ps : List Parameter) (slot : ℕ) (slots : List ℤ) → KeptFrom (p ∷ ps) slot slots → KeptFrom ps (suc slot) slots
kept_rest p ps slot slots f i q e =
    let same : slot + suc i ≡ suc slot + i = omega arith in
    subst (λ (n : ℕ). holds q.range (slice_index_or slots n (pos 0)) ≡ true) same (f (suc i) q e)

kept_first : (p : Parameter) (ps : List Parameter) (slot : ℕ) (slots : List ℤ) → KeptFrom (p ∷ ps) slot slots → holds p.range (slice_index_or slots slot (pos 0)) ≡ true
kept_first p ps slot slots f =
    let same : slot + 0 ≡ slot = omega arith in
    subst (λ (n : ℕ). holds p.range (slice_index_or slots n (pos 0)) ≡ true) same (f 0 p refl)

abbrev GivenBack : List Range → List ℤ → List ℤ → Type 0
GivenBack ranges before values = (more : List ℤ) × (values ≡ before ++ more) × (all_fit ranges more ≡ true)

abbrev out_ranges : Bool → Parameter → List Parameter → List Range
out_ranges k p ps = map (λ (q : Parameter). q.range) (cond k (p ∷ filter (λ (q : Parameter). goes_out q.mode) ps) (filter (λ (q : Parameter). goes_out q.mode) ps))

one_back : (p : Parameter) (ps : List Parameter) (before : List ℤ) (v : ℤ) (values : List ℤ) → length before < 4 → holds p.range v ≡ true → GivenBack (ranges_out ps) (joined before v) values → GivenBack (out_ranges true p ps) before values
one_back p ps before v values less h rest = (
  v ∷ rest.0,
  rest.1 ∙ (ap (λ (vs : List ℤ). vs ++ rest.0) (joined_is before v less) ∙ append_assoc before (v ∷ []) rest.0),
  both_hold (holds p.range v) (all_fit (ranges_out ps) rest.0) h rest.2,
)

back_by_mode : (k : Bool) (owns : List Parameter) (p : Parameter) (ps : List Parameter) (slot : ℕ) (slots before : List ℤ) (v : ℤ) → length before + length (p ∷ ps) ≤ 4 → holds p.range v ≡ true
    → ((values : List ℤ) → length values + length ps ≤ 4 → GivenBack (ranges_out ps) values (given_back owns (suc slot) slots values))
    → GivenBack (out_ranges k p ps) before (given_back owns (suc slot) slots (cond k (joined before v) before))
back_by_mode true owns p ps slot slots before v few h rest =
    one_back p ps before v (given_back owns (suc slot) slots (joined before v)) (omega (arith, few)) h (rest (joined before v) (longer before v ps p few))
back_by_mode false owns p ps slot slots before v few h rest = rest before (omega (arith, few))

given_fits : (owns ps : List Parameter) (slot : ℕ) (slots before : List ℤ) → parameters_fit owns ps ≡ true → KeptFrom ps slot slots → length before + length ps ≤ 4
    → GivenBack (ranges_out ps) before (given_back owns slot slots before)
given_fits [] [] slot slots before m f few = ([], sym (append-nil before), refl)
given_fits [] (p ∷ ps) slot slots before m f few = absurd (cc m)
given_fits (own ∷ owns) [] slot slots before m f few = absurd (cc m)
given_fits (own ∷ owns) (p ∷ ps) slot slots before m f few =
    let this = first_of_both (parameter_fits own p) (parameters_fit owns ps) m in
    let same = out_same own.mode p.mode (first_of_both (same_mode own.mode p.mode) (goes_in own.mode || holds p.range (first_of own.range.of own.range.low)) this) in
    subst (λ (k : Bool). GivenBack (out_ranges (goes_out p.mode) p ps) before (given_back owns (suc slot) slots (cond k (joined before (slice_index_or slots slot (pos 0))) before))) (sym same)
    (back_by_mode (goes_out p.mode) owns p ps slot slots before (slice_index_or slots slot (pos 0)) few (kept_first p ps slot slots f)
    (λ values few_then. given_fits owns ps (suc slot) slots values (second_of_both (parameter_fits own p) (parameters_fit owns ps) m) (kept_rest p ps slot slots f) few_then))

pub given_back_fits : (owns ps : List Parameter) (slots : List ℤ) → parameters_fit owns ps ≡ true → KeptSlots ps slots → length ps ≤ 4 → all_fit (ranges_out ps) (given_back owns 0 slots []) ≡ true
given_back_fits owns ps slots m f few =
    let got = given_fits owns ps 0 slots [] m
    (λ i p e. let same : i ≡ 0 + i = omega arith in subst (λ (n : ℕ). holds p.range (slice_index_or slots n (pos 0)) ≡ true) same (f i p e)) (omega (arith, few)) in
    subst (λ (vs : List ℤ). all_fit (ranges_out ps) vs ≡ true) (sym got.1) got.2

-- What is taken

set_other : (xs : List ℤ) (i j : ℕ) (v : ℤ) → i < j → slice_index_or (slice_set xs j v) i (pos 0) ≡ slice_index_or xs i (pos 0)
set_other [] i j v less = refl
set_other (x ∷ xs) i zero v less = absurd (omega (arith, less))
set_other (x ∷ xs) zero (suc j) v less = refl
set_other (x ∷ xs) (suc i) (suc j) v less = set_other xs i j v (omega (arith, less))

set_there : (xs : List ℤ) (j : ℕ) (v : ℤ) → j < length xs → slice_index_or (slice_set xs j v) j (pos 0) ≡ v
set_there [] j v less = absurd (omega (arith, less))
set_there (x ∷ xs) zero v less = refl
set_there (x ∷ xs) (suc j) v less = set_there xs j v (omega (arith, less))

-- slots before those of the parameters stay
bound_before : (owns : List Parameter) (slot given : ℕ) (values slots : List ℤ) (i : ℕ) → i < slot → slice_index_or (bound owns slot given values slots) i (pos 0) ≡ slice_index_or slots i (pos 0)
bound_before [] slot given values slots i less = refl
bound_before (own ∷ owns) slot given values slots i less =
    bound_before owns (suc slot) (next_given own.mode given) values (slice_set slots slot (start_of own values given)) i (omega (arith, less))
    ∙ set_other slots i slot (start_of own values given) less

value_there : (before : List ℤ) (v : ℤ) (rest : List ℤ) → slice_index_or (before ++ v ∷ rest) (length before) (pos 0) ≡ v
value_there [] v rest = refl
value_there (u ∷ before) v rest = value_there before v rest

abbrev in_ranges : Bool → Parameter → List Parameter → List Range
in_ranges k p ps = map (λ (q : Parameter). q.range) (cond k (p ∷ filter (λ (q : Parameter). goes_in q.mode) ps) (filter (λ (q : Parameter). goes_in q.mode) ps))

abbrev parameter_or : Parameter → Option Parameter → Parameter
parameter_or p None = p
parameter_or p (Some q) = q

-- a first parameter, and those behind it
kept_all : (p : Parameter) (ps : List Parameter) (slot : ℕ) (slots : List ℤ) → holds p.range (slice_index_or slots slot (pos 0)) ≡ true → KeptFrom ps (suc slot) slots → KeptFrom (p ∷ ps) slot slots
kept_all p ps slot slots h f zero q e =
    let same : slot ≡ slot + 0 = omega arith in
    let is : p ≡ q = ap (parameter_or p) e in
    subst (λ (r : Parameter). holds r.range (slice_index_or slots (slot + 0) (pos 0)) ≡ true) is (subst (λ (n : ℕ). holds p.range (slice_index_or slots n (pos 0)) ≡ true) same h)
kept_all p ps slot slots h f (suc i) q e =
    let same : suc slot + i ≡ slot + suc i = omega arith in
    subst (λ (n : ℕ). holds q.range (slice_index_or slots n (pos 0)) ≡ true) same (f i q e)

-- the first takes a value, and stays
first_kept : (owns : List Parameter) (p : Parameter) (ps : List Parameter) (slot given : ℕ) (values slots : List ℤ) (v u : ℤ) → slot + length (p ∷ ps) ≤ length slots → u ≡ v → holds p.range u ≡ true
    → holds p.range (slice_index_or (bound owns (suc slot) given values (slice_set slots slot v)) slot (pos 0)) ≡ true
first_kept owns p ps slot given values slots v u long e h =
    let less : slot < suc slot = omega arith in
    let there : slot < length slots = omega (arith, long) in
    subst (λ (x : ℤ). holds p.range x ≡ true) (e ∙ sym (bound_before owns (suc slot) given values (slice_set slots slot v) slot less ∙ set_there slots slot v there)) h

room_left : (p : Parameter) (ps : List Parameter) (slot : ℕ) (slots : List ℤ) (v : ℤ) → slot + length (p ∷ ps) ≤ length slots → suc slot + length ps ≤ length (slice_set slots slot v)
room_left p ps slot slots v long = let same : length (slice_set slots slot v) ≡ length slots = length-set slots slot v in omega (arith, same, long)

-- what is known of the parameters behind
abbrev RestFits : List Parameter → List Parameter → ℕ → List ℤ → Type 0
RestFits owns ps slot values =
    (given : ℕ) (before rest slots : List ℤ) → given ≡ length before → values ≡ before ++ rest → all_fit (ranges_in ps) rest ≡ true → suc slot + length ps ≤ length slots
    → KeptFrom ps (suc slot) (bound owns (suc slot) given values slots)

taken : (owns : List Parameter) (p : Parameter) (ps : List Parameter) (slot given : ℕ) (before more values slots : List ℤ) (u : ℤ) → given ≡ length before → values ≡ before ++ u ∷ more → all_fit (p.range ∷ ranges_in ps) (u ∷ more) ≡ true
    → slot + length (p ∷ ps) ≤ length slots → RestFits owns ps slot values
    → KeptFrom (p ∷ ps) slot (bound owns (suc slot) (suc given) values (slice_set slots slot (slice_index_or values given (pos 0))))
taken owns p ps slot given before more values slots u at is fit long rest =
    let found : u ≡ slice_index_or values given (pos 0) = sym (ap (λ (n : ℕ). slice_index_or values n (pos 0)) at ∙ (ap (λ (vs : List ℤ). slice_index_or vs (length before) (pos 0)) is ∙ value_there before u more)) in
    let one_more : length (before ++ u ∷ []) ≡ length before + 1 = length-append before (u ∷ []) in
    let count : suc given ≡ length (before ++ u ∷ []) = omega (arith, at, one_more) in
    kept_all p ps slot (bound owns (suc slot) (suc given) values (slice_set slots slot (slice_index_or values given (pos 0))))
    (first_kept owns p ps slot (suc given) values slots (slice_index_or values given (pos 0)) u long found (first_of_both (holds p.range u) (all_fit (ranges_in ps) more) fit))
    (rest (suc given) (before ++ u ∷ []) more (slice_set slots slot (slice_index_or values given (pos 0))) count (is ∙ sym (append_assoc before (u ∷ []) more))
    (second_of_both (holds p.range u) (all_fit (ranges_in ps) more) fit) (room_left p ps slot slots (slice_index_or values given (pos 0)) long))

bound_by_mode : (k : Bool) (owns : List Parameter) (own p : Parameter) (ps : List Parameter) (slot given : ℕ) (before rest values slots : List ℤ) → given ≡ length before → values ≡ before ++ rest → all_fit (in_ranges k p ps) rest ≡ true
    → (k || holds p.range (first_of own.range.of own.range.low)) ≡ true → slot + length (p ∷ ps) ≤ length slots → RestFits owns ps slot values
    → KeptFrom (p ∷ ps) slot (bound owns (suc slot) (cond k (suc given) given) values (slice_set slots slot (cond k (slice_index_or values given (pos 0)) (first_value own.range.of own.range.low))))
bound_by_mode true owns own p ps slot given before [] values slots at is fit start long f = absurd (cc fit)
bound_by_mode true owns own p ps slot given before (u ∷ more) values slots at is fit start long f = taken owns p ps slot given before more values slots u at is fit long f
bound_by_mode false owns own p ps slot given before rest values slots at is fit start long f =
    kept_all p ps slot (bound owns (suc slot) given values (slice_set slots slot (first_value own.range.of own.range.low)))
    (first_kept owns p ps slot given values slots (first_value own.range.of own.range.low) (first_of own.range.of own.range.low) long (first_same own.range.of own.range.low) start)
    (f given before rest (slice_set slots slot (first_value own.range.of own.range.low)) at is fit (room_left p ps slot slots (first_value own.range.of own.range.low) long))

bound_fits : (owns ps : List Parameter) (slot given : ℕ) (before rest values slots : List ℤ) → parameters_fit owns ps ≡ true → given ≡ length before → values ≡ before ++ rest
    → all_fit (ranges_in ps) rest ≡ true → slot + length ps ≤ length slots → KeptFrom ps slot (bound owns slot given values slots)
bound_fits [] [] slot given before rest values slots m at is fit long = λ i p e. absurd (cc e)
bound_fits [] (p ∷ ps) slot given before rest values slots m at is fit long = absurd (cc m)
bound_fits (own ∷ owns) [] slot given before rest values slots m at is fit long = absurd (cc m)
bound_fits (own ∷ owns) (p ∷ ps) slot given before rest values slots m at is fit long =
    let this = first_of_both (parameter_fits own p) (parameters_fit owns ps) m in
    let same = in_same own.mode p.mode (first_of_both (same_mode own.mode p.mode) (goes_in own.mode || holds p.range (first_of own.range.of own.range.low)) this) in
    let start = second_of_both (same_mode own.mode p.mode) (goes_in own.mode || holds p.range (first_of own.range.of own.range.low)) this in
    bound_by_mode (goes_in own.mode) owns own p ps slot given before rest values slots at is (subst (λ (k : Bool). all_fit (in_ranges k p ps) rest ≡ true) (sym same) fit) start long
    (λ given_then front back slots_then count made fine some. bound_fits owns ps (suc slot) given_then front back values slots_then (second_of_both (parameter_fits own p) (parameters_fit owns ps) m) count made fine some)

-- so each parameter takes a value of its range
pub bound_kept : (owns ps : List Parameter) (values : List ℤ) → parameters_fit owns ps ≡ true → all_fit (ranges_in ps) values ≡ true → length ps ≤ 4 → KeptSlots ps (bound owns 0 0 values (replicate 132 (pos 0)))
bound_kept owns ps values m fit few i p e =
    let same : 0 + i ≡ i = omega arith in
    let long : 0 + length ps ≤ length (replicate 132 (pos 0)) = omega (arith, few) in
    subst (λ (n : ℕ). holds p.range (slice_index_or (bound owns 0 0 values (replicate 132 (pos 0))) n (pos 0)) ≡ true) same
    (bound_fits owns ps 0 0 [] values values (replicate 132 (pos 0)) m refl refl fit long i p e)
