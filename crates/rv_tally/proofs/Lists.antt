-- A list that denies a unit everything grants it nothing.
use Rattle.std.proofs.Common.{◌≡◌, ◌∙◌, ◌+◌, ◌-◌, ◌==◌, ◌&&◌, ◌||◌, ℕ, Bool, true, false, if◌then◌else◌, List, [], ◌∷◌, ◌++◌, ap, sym, refl, arith, codes, slice_get, true≢false, ◌⊎◌, inl, inr, add-one, None}
use Rattle.std.proofs.lemmas.Bool.Decides.{nat_tests}
use Rattle.std.specs.List.{list_any}
use Rattle.std.specs.Str.{bytes_eq}
use Rattle.rv_shape.proofs.NumberingLemmas.{same_laws}
use Rattle.rv_access.specs.Lines.{allows, decides, fits, grants, line_at, matches}
use Rattle.rv_access.specs.Windows.{is_open}
use Rattle.rv_access.specs.Words.{Words}
use Rattle.rv_tally.specs.Denied.{DeniesAll, IsDenial, LastDenialStands, denial, may_grant}

-- a line decides, and doesn't allow
record Denies (lines : List Words) (number : ℕ) : Type 0 where
  place : ℕ
  is : number ≡ place + 1
  denies : allows (slice_get lines place) ≡ false

-- none decides, or one that doesn't allow
abbrev Silent : List Words → ℕ → Type 0
Silent lines number = (number ≡ 0) ⊎ Denies lines number

-- the number that decides with a line more in front, which matches or not
abbrev onto : Bool → ℕ → ℕ
onto matching later = if later == 0 then (if matching then 1 else 0) else later + 1

after_one : {X : Type 0} (x : X) (xs : List X) (place : ℕ) → slice_get (x ∷ xs) (place + 1) ≡ slice_get xs place
after_one x xs place = rw add-one refl

behind_some : (matching : Bool) (place : ℕ) → onto matching (place + 1) ≡ place + 1 + 1
behind_some matching place =
    let some : (place + 1 == 0) ≡ false = grind (arith, nat_tests) in
    ap (λ (t : Bool). if t then (if matching then 1 else 0) else place + 1 + 1) some

-- where a line behind it decides, a line in front changes nothing
still : (line : Words) (lines : List Words) (matching : Bool) (later : ℕ) → Denies lines later → Denies (line ∷ lines) (onto matching later)
still line lines matching later d = record {
  place = d.place + 1;
  is = ap (onto matching) d.is ∙ behind_some matching d.place;
  denies = ap allows (after_one line lines d.place) ∙ d.denies;
}

-- a line in front that doesn't allow what it matches
in_front : (line : Words) (lines : List Words) (matching : Bool) (later : ℕ) → Silent lines later
    → (matching ≡ true → line.allow ≡ false) → Silent (line ∷ lines) (onto matching later)
in_front line lines true later (inl none) denies =
    inr (record { place = 0; is = ap (onto true) none; denies = denies refl })
in_front line lines false later (inl none) denies = inl (ap (onto false) none)
in_front line lines matching later (inr d) denies = inr (still line lines matching later d)

-- a line in front that denies and matches, where none behind it decides or one that doesn't allow
decides_now : (line : Words) (lines : List Words) (matching : Bool) (later : ℕ) → Silent lines later → matching ≡ true
    → line.allow ≡ false → Denies (line ∷ lines) (onto matching later)
decides_now line lines matching later (inl none) matched denies = record {
  place = 0;
  is = ap (onto matching) none ∙ ap (λ (m : Bool). onto m 0) matched;
  denies = denies;
}
decides_now line lines matching later (inr d) matched denies = still line lines matching later d

-- Lists

both : (a b : Bool) → (a && b) ≡ false → b ≡ true → a ≡ false
both true b e holds = absurd (true≢false (sym holds ∙ e))
both false b e holds = refl

first_of_four : (a b c d : Bool) → (((a && b) && c) && d) ≡ true → a ≡ true
first_of_four true b c d e = refl
first_of_four false b c d e = absurd (true≢false (sym e))

either : (a b : Bool) → (a || b) ≡ false → (a ≡ false) × (b ≡ false)
either true b e = absurd (true≢false e)
either false b e = (refl, e)

-- a line that may grant a unit nothing doesn't allow what it matches of it
not_granting : (line : Words) (unit object operation : List ℕ) (tick : ℕ) → may_grant unit line ≡ false
    → matches line unit object operation tick ≡ true → line.allow ≡ false
not_granting line unit object operation tick none matched =
    both line.allow (fits line.unit unit) none
    (first_of_four (fits line.unit unit) (fits line.object object) (fits line.operation operation) (is_open line.window tick) matched)

-- lines that may grant a unit nothing
none_grants : (lines : List Words) (unit object operation : List ℕ) (tick : ℕ) → list_any (may_grant unit) lines ≡ false
    → Silent lines (decides lines unit object operation tick)
none_grants [] unit object operation tick none = inl refl
none_grants (line ∷ lines) unit object operation tick none =
    let two = either (may_grant unit line) (list_any (may_grant unit) lines) none in
    in_front line lines (matches line unit object operation tick) (decides lines unit object operation tick)
    (none_grants lines unit object operation tick two.1) (not_granting line unit object operation tick two.0)

-- a denial matches each call of its unit
denial_matches : (line : Words) (unit object operation : List ℕ) (tick : ℕ) → IsDenial unit line
    → matches line unit object operation tick ≡ true
denial_matches line unit object operation tick d =
    rw (d.names, d.object, d.operation, d.always) refl

-- and lines in front of it change nothing
denies_behind : (before lines : List Words) (unit object operation : List ℕ) (tick : ℕ)
    → Denies lines (decides lines unit object operation tick)
    → Denies (before ++ lines) (decides (before ++ lines) unit object operation tick)
denies_behind [] lines unit object operation tick d = d
denies_behind (line ∷ before) lines unit object operation tick d =
    still line (before ++ lines) (matches line unit object operation tick) (decides (before ++ lines) unit object operation tick)
    (denies_behind before lines unit object operation tick d)

not_granted : (lines : List Words) (unit object operation : List ℕ) (tick : ℕ) → Denies lines (decides lines unit object operation tick)
    → grants lines unit object operation tick ≡ false
not_granted lines unit object operation tick d =
    let some : (d.place + 1 == 0) ≡ false = grind (arith, nat_tests) in
    let back : d.place + 1 - 1 ≡ d.place = omega arith in
    ap (λ (n : ℕ). allows (line_at lines n)) d.is
    ∙ ap (λ (t : Bool). allows (if t then None else slice_get lines (d.place + 1 - 1))) some
    ∙ ap (λ (n : ℕ). allows (slice_get lines n)) back ∙ d.denies

pub denied_grants : (list : List Words) (unit : List ℕ) → DeniesAll list unit → (object operation : List ℕ) (tick : ℕ)
    → grants list unit object operation tick ≡ false
denied_grants list unit d object operation tick =
    let here : Denies (d.line ∷ d.behind) (decides (d.line ∷ d.behind) unit object operation tick) =
    decides_now d.line d.behind (matches d.line unit object operation tick) (decides d.behind unit object operation tick)
    (none_grants d.behind unit object operation tick d.no_grant) (denial_matches d.line unit object operation tick d.is) d.is.denies in
    ap (λ (l : List Words). grants l unit object operation tick) d.split
    ∙ not_granted (d.before ++ d.line ∷ d.behind) unit object operation tick
    (denies_behind d.before (d.line ∷ d.behind) unit object operation tick here)

-- The last denial

or_true : (b : Bool) → (b || true) ≡ true
or_true true = refl
or_true false = refl

fits_itself : (unit : List ℕ) → fits unit unit ≡ true
fits_itself unit =
    ap (λ (t : Bool). bytes_eq unit (codes "*") || t) (same_laws.refl unit) ∙ or_true (bytes_eq unit (codes "*"))

pub last_stands : LastDenialStands
last_stands list unit = record {
  before = list;
  line = denial unit;
  behind = [];
  split = refl;
  is = record { denies = refl; names = fits_itself unit; object = refl; operation = refl; always = refl };
  no_grant = refl;
}
