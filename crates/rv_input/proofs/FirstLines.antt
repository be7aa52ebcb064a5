-- The first line of what comes.
use Rattle.std.proofs.Common.{◌≡◌, ℕ, zero, suc, ◌+◌, ◌-◌, ◌<◌, ◌≤◌, Bool, true, false, Option, Some, None, inl, inr, List, [], ◌∷◌, ◌++◌, length, take, drop, get_or, not, refl, sym, ap, ◌∙◌, arith, take-append-drop, length-take-le, length-append}
use Rattle.std.specs.Prelude.{◌==◌}
use Rattle.std.specs.List.{position_or_len, before_first, after_first}
use Rattle.std.specs.Str.Lines.{lines, strip_carriage_return}
use Rattle.std.proofs.lemmas.Bool.Decides.{nat_tests}
use Rattle.std.proofs.lemmas.List.{take_all, take_at}
use Rattle.std.proofs.lemmas.List.Sums.{passes_at_first, split_at_first, fails_before_first, prefix_len-le-length}
use lib.Seq.{take-append-add, drop-append-add, get_or-append_seam}
use Rattle.rv_text.specs.Sections.{is_line_feed}
use Rattle.rv_text.proofs.FirstParts.{lines_cut, lines_last}
use Rattle.rv_input.proofs.Told.{told_both}
use Rattle.rv_input.specs.Coming.{IfTold, GivesByte, Takes, ReadsAs, GivesLine, content, most_bytes}

-- no line feed is there
abbrev pub NoFeed : List ℕ → Type 0
NoFeed line = position_or_len is_line_feed line ≡ length line

feed_behind : (x : ℕ) (xs rest : List ℕ) → (NoFeed xs → position_or_len is_line_feed (xs ++ 10 ∷ rest) ≡ length xs) → NoFeed (x ∷ xs) → (b : Bool) → is_line_feed x ≡ b → position_or_len is_line_feed ((x ∷ xs) ++ 10 ∷ rest) ≡ length (x ∷ xs)
feed_behind x xs rest more h true e = absurd (grind (arith, e, h))
feed_behind x xs rest more h false e = let n : NoFeed xs = grind (arith, e, h) in let m = more n in grind (arith, e, m)

-- the first line feed stands behind what has none
feed_at : (front rest : List ℕ) → NoFeed front → position_or_len is_line_feed (front ++ 10 ∷ rest) ≡ length front
feed_at [] rest h = refl
feed_at (x ∷ xs) rest h = feed_behind x xs rest (feed_at xs rest) h (is_line_feed x) refl

-- a line with its line feed is taken
pub takes_fed : (front rest : List ℕ) → NoFeed front → Takes (front ++ 10 ∷ []) (front ++ 10 ∷ rest) rest
takes_fed front rest h = (
  sym (ap (λ (n : ℕ). take (n + 1) (front ++ 10 ∷ rest)) (feed_at front rest h) ∙ take-append-add front (10 ∷ rest) 1),
  sym (ap (λ (n : ℕ). drop (n + 1) (front ++ 10 ∷ rest)) (feed_at front rest h) ∙ drop-append-add front (10 ∷ rest) 1),
)

none_left : (n : ℕ) (xs : List ℕ) → length xs ≤ n → drop n xs ≡ []
none_left zero [] h = refl
none_left zero (x ∷ xs) h = absurd (omega (arith, h))
none_left (suc n) [] h = refl
none_left (suc n) (x ∷ xs) h = none_left n xs (omega (arith, h))

content_fed : (front : List ℕ) (x : ℕ) → is_line_feed x ≡ true → content (front ++ x ∷ []) ≡ strip_carriage_return front
content_fed front x e =
    let long : length (front ++ x ∷ []) - 1 ≡ length front = omega (arith, length-append front (x ∷ [])) in
    let last : is_line_feed (get_or (front ++ x ∷ []) (length (front ++ x ∷ []) - 1) 0) ≡ true =
    ap (λ (n : ℕ). is_line_feed (get_or (front ++ x ∷ []) n 0)) long ∙ (ap is_line_feed (get_or-append_seam front x [] 0) ∙ e) in
    rw last (ap (λ (n : ℕ). strip_carriage_return (take n (front ++ x ∷ []))) long ∙ ap strip_carriage_return (take_at front (x ∷ []) (length front) refl))

content_last : (line : List ℕ) → NoFeed line → 0 < length line → content line ≡ line
content_last line h some =
    let last : is_line_feed (get_or line (length line - 1) 0) ≡ false = fails_before_first is_line_feed line (length line - 1) 0 (omega (arith, h, some)) in
    rw last refl

-- the first line of what comes, and the others
first_content : (old : List ℕ) → 0 < length old → (b : Bool) → (position_or_len is_line_feed old == length old) ≡ b → lines old ≡ content (take (position_or_len is_line_feed old + 1) old) ∷ lines (after_first is_line_feed old)
first_content old some true e =
    let all : NoFeed old = grind (arith, nat_tests, e) in
    let whole : take (position_or_len is_line_feed old + 1) old ≡ old = take_all _ old (omega (arith, all)) in
    let rest : after_first is_line_feed old ≡ [] = none_left _ old (omega (arith, all)) in
    lines_last old some all ∙ (rw (whole, rest, content_last old all some) refl)
first_content old some false e =
    let within : position_or_len is_line_feed old < length old = grind (arith, nat_tests, prefix_len-le-length (λ x. not (is_line_feed x)) old, e) in
    let front = before_first is_line_feed old in
    let x = get_or old (position_or_len is_line_feed old) 0 in
    let long : length front ≡ position_or_len is_line_feed old = length-take-le (position_or_len is_line_feed old) old (omega (arith, within)) in
    let first : take (position_or_len is_line_feed old + 1) old ≡ front ++ x ∷ [] =
    ap (take (position_or_len is_line_feed old + 1)) (split_at_first is_line_feed old 0 within)
    ∙ (ap (λ (n : ℕ). take (n + 1) (front ++ x ∷ after_first is_line_feed old)) (sym long) ∙ take-append-add front (x ∷ after_first is_line_feed old) 1) in
    lines_cut old within ∙ ap (λ (l : List ℕ). l ∷ lines (after_first is_line_feed old)) (sym (ap content first ∙ content_fed front x (passes_at_first is_line_feed old 0 within)))

long_first : (old : List ℕ) (n : ℕ) → 0 < length (take n old) → 0 < length old
long_first old zero h = absurd (omega (arith, h))
long_first [] (suc n) h = absurd (omega (arith, h))
long_first (x ∷ xs) (suc n) h = omega arith

pub takes_content : (line old new : List ℕ) → Takes line old new → 0 < length line → lines old ≡ content line ∷ lines new
takes_content line old new t some =
    let long : 0 < length old = long_first old (position_or_len is_line_feed old + 1) (omega (arith, some, ap length t.0)) in
    first_content old long (position_or_len is_line_feed old == length old) refl ∙ (rw (t.0, t.1) refl)

none_first : (old : List ℕ) (n : ℕ) → take (suc n) old ≡ [] → old ≡ []
none_first [] n e = refl
none_first (x ∷ xs) n e = let none : suc (length (take n xs)) ≡ 0 = ap length e in absurd (omega (arith, none))

-- no line is taken at the end alone
pub takes_none : (old new : List ℕ) → Takes [] old new → (old ≡ []) × (new ≡ [])
takes_none old new t =
    let one : position_or_len is_line_feed old + 1 ≡ suc (position_or_len is_line_feed old) = omega arith in
    let none = none_first old (position_or_len is_line_feed old) (ap (λ (n : ℕ). take n old) (sym one) ∙ sym t.0) in
    (none, t.1 ∙ ap (after_first is_line_feed) none)

-- a line is taken off the front
pub takes_front : (line old new : List ℕ) → Takes line old new → old ≡ line ++ new
takes_front line old new t = sym (ap (λ (l : List ℕ). l ++ new) t.0 ∙ (ap (λ (l : List ℕ). take (position_or_len is_line_feed old + 1) old ++ l) t.1 ∙ take-append-drop (position_or_len is_line_feed old + 1) old))

none_taken : (line old new : List ℕ) → line ≡ [] → Takes line old new → (old ≡ []) × (new ≡ [])
none_taken line old new e t = takes_none old new (sym e ∙ t.0, t.1)

-- a line that is taken is given as its text
pub takes_text : (given : ℕ) (line old new : List ℕ) (text : Option (List ℕ)) → ReadsAs line text → Takes line old new → GivesLine given text old new
takes_text given line old new (Some text) is t = (takes_content line old new t is.0 ∙ ap (λ (l : List ℕ). l ∷ lines new) (sym is.1), t.1)
takes_text given line old new None (inl none) t = inl (none_taken line old new none t)
takes_text given line old new None (inr (some, bad)) t = inr (content line, takes_content line old new t some, inl bad)

-- a line with which the input has given too much
pub takes_past : (given : ℕ) (line old new : List ℕ) → most_bytes < given → Takes line old new → GivesLine given None old new
takes_past given [] old new past t = inl (takes_none old new t)
takes_past given (x ∷ xs) old new past t = inr (content (x ∷ xs), takes_content (x ∷ xs) old new t (omega arith), inr past)

-- a line feed comes behind a line
pub line_ends : (a b c : Option (List ℕ)) (line whole : List ℕ) (byte : ℕ) → NoFeed line → byte ≡ 10 → whole ≡ line ++ byte ∷ [] → IfTold a b (λ old new. old ≡ line ++ new) → IfTold b c (GivesByte (Some byte)) → IfTold a c (Takes whole)
line_ends a b c line whole byte h ten is p q =
    told_both (λ old new. old ≡ line ++ new) (GivesByte (Some byte)) (Takes whole) a b c (λ x y z first next.
    let is_ten : whole ≡ line ++ 10 ∷ [] = is ∙ ap (λ (n : ℕ). line ++ n ∷ []) ten in
    let all : x ≡ line ++ 10 ∷ z = first ∙ ap (λ (l : List ℕ). line ++ l) (next ∙ ap (λ (n : ℕ). n ∷ z) ten) in
    let t = takes_fed line z h in (is_ten ∙ (t.0 ∙ ap (λ (l : List ℕ). take (position_or_len is_line_feed l + 1) l) (sym all)), t.1 ∙ ap (after_first is_line_feed) (sym all))) p q
