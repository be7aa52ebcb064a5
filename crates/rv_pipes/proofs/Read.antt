-- What is read of a pipe.
use Rattle.std.proofs.Common.{◌≡◌, ℕ, ◌-◌, Bool, true, false, List, [], ◌∷◌, ◌++◌, length, take, drop, Option, Some, None, refl, sym, ap, ◌∙◌, subst, arith, inl, inr}
use Rattle.std.specs.Prelude.{◌≢◌, ◌⊎◌, All, IfSome}
use Rattle.std.specs.Option.{option_map}
use Rattle.std.specs.Io.{StopsAt, appended_bytes}
use Rattle.std.specs.Io.BufRead.{take_through}
use Rattle.std.specs.Io.Take.{take_inner, take_limit, take_remaining}
use Rattle.std.specs.declared.io.traits.Take.{Take}
use Rattle.std.proofs.lemmas.List.{length-append}
use Rattle.std.proofs.lemmas.List.Elements.{All-append, All-cons, All-nil}
use Rattle.std.proofs.Math.Seq.{take-append_seam, drop-append_seam}
use Rattle.rv_pipes.specs.Lines.{IsLine, next_bytes}

-- no line feed
abbrev pub Other : ℕ → Type 0
Other x = x ≢ 10

known_first : (left : Option (List ℕ)) (limit : ℕ) (items before : List ℕ) → limit ≡ 4096 → before ≡ []
    → IfSome (option_map (take limit) left) (λ xs. items ≡ before ++ take_through 10 xs) → IfSome left (λ xs. items ≡ next_bytes xs)
known_first None limit items before l b e = tt
known_first (Some xs) limit items before l b e =
    e ∙ (ap (λ (z : List ℕ). z ++ take_through 10 (take limit xs)) b ∙ ap (λ (n : ℕ). take_through 10 (take n xs)) l)

-- what a reader that is limited to a line gave
pub known_next : {R : Type 0} (remaining : R → Option (List ℕ)) (old new : Take R) (items before : List ℕ) → take_limit new ≡ 4096
    → take_inner new ≡ take_inner old → before ≡ [] → IfSome (take_remaining remaining new) (λ xs. items ≡ before ++ take_through 10 xs)
    → IfSome (remaining (take_inner old)) (λ xs. items ≡ next_bytes xs)
known_next {R} remaining old new items before l i b e = known_first (remaining (take_inner old)) (take_limit new) items before l b
    (subst (λ (r : R). IfSome (option_map (take (take_limit new)) (remaining r)) (λ xs. items ≡ before ++ take_through 10 xs)) i e)

pub stops_whole : (old items : List ℕ) → old ≡ [] → StopsAt (appended_bytes old items) 10 → StopsAt items 10
stops_whole old items none stops = subst (λ (xs : List ℕ). StopsAt (drop (length xs) items) 10) none stops

one_less : (words : List ℕ) (x : ℕ) → length (words ++ x ∷ []) - 1 ≡ length words
one_less words x = let l = length-append words (x ∷ []) in omega (arith, l)

cut_last : (words : List ℕ) (x : ℕ) → take (length (words ++ x ∷ []) - 1) (words ++ x ∷ []) ≡ words
cut_last words x = ap (λ (n : ℕ). take n (words ++ x ∷ [])) (one_less words x) ∙ take-append_seam words (x ∷ [])

last_of : (words : List ℕ) (x : ℕ) → drop (length (words ++ x ∷ []) - 1) (words ++ x ∷ []) ≡ x ∷ []
last_of words x = ap (λ (n : ℕ). drop n (words ++ x ∷ [])) (one_less words x) ∙ drop-append_seam words (x ∷ [])

-- words with a line feed behind them are a line
pub line_of : (words line : List ℕ) → All Other words → line ≡ words ++ 10 ∷ [] → IsLine line
line_of words line others is = subst IsLine (sym is) (subst (All Other) (sym (cut_last words 10)) others, last_of words 10)

-- what stands before the last byte has no line feed
pub before_last : (line words : List ℕ) (x : ℕ) → line ≡ words ++ x ∷ [] → StopsAt line 10 → All Other words
before_last line words x is stops = subst (All Other) (ap (λ (xs : List ℕ). take (length xs - 1) xs) is ∙ cut_last words x) stops

-- nor has all, where the last byte is none
pub all_before : (line words : List ℕ) (x : ℕ) → line ≡ words ++ x ∷ [] → StopsAt line 10 → (x ≡ 10 → ⊥) → All Other (words ++ x ∷ [])
all_before line words x is stops other = All-append Other words (x ∷ []) (before_last line words x is stops) (All-cons Other x [] other (All-nil Other))

-- the line of what was read
pub line_next : (left : Option (List ℕ)) (line words bytes : List ℕ) (fed : Bool)
    → (fed ≡ true → line ≡ words ++ 10 ∷ []) → (fed ≡ false → line ≡ words) → IfSome left (λ xs. line ≡ next_bytes xs) → bytes ≡ words ++ 10 ∷ []
    → IfSome left (λ xs. (bytes ≡ next_bytes xs) ⊎ (bytes ≡ next_bytes xs ++ 10 ∷ []))
line_next None line words bytes fed is isnt known e = tt
line_next (Some xs) line words bytes true is isnt known e = inl (e ∙ (sym (is refl) ∙ known))
line_next (Some xs) line words bytes false is isnt known e = inr (e ∙ ap (λ (z : List ℕ). z ++ 10 ∷ []) (sym (isnt refl) ∙ known))
