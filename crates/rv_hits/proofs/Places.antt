-- What is counted of lines, by their places.
use Rattle.std.proofs.Common.{◌≡◌, ◌+◌, ◌<◌, ℕ, zero, suc, Bool, true, false, List, [], ◌∷◌, ◌++◌, Some, length, get_or, set, take, refl, sym, ap, ◌∙◌, subst, arith, if◌then◌else◌}
use Rattle.std.specs.Prelude.{◌==◌, slice_get, string_bytes}
use Rattle.std.specs.Str.{bytes_eq}
use Rattle.std.proofs.lemmas.List.{take_more}
use Rattle.std.proofs.lemmas.Bool.Decides.{nat_tests}
use Rattle.rv_access.specs.Text.{line_text}
use Rattle.rv_access.specs.Words.{Words}
use Rattle.rv_tallied.specs.Tallies.{added, more, once_more, one_more}
use Rattle.rv_tallied.proofs.Steps.{first_more, more_once, more_swaps, one_is_some}
use Rattle.rv_tallied.specs.declared.tallies.Tally.{Tally}
use Rattle.rv_hits.specs.Counts.{AreOf, CountsAt, IsFresh, IsFreshOf, IsOf, joined, with_count}
use Rattle.rv_hits.specs.declared.counts.Counted.{Counted}

-- once more is added before or behind the rest

with_swaps : (it : Counted) (words : List ℕ) (b : Bool) (t : Tally) → with_count it words (once_more b t) ≡ once_more b (with_count it words t)
with_swaps it words b t = by (it.times == 0) (bytes_eq (string_bytes it.words) words)
  where
    by : (none same : Bool) → (if none then once_more b t else (if same then more it.times it.allows (once_more b t) else once_more b t)) ≡ once_more b (if none then t else (if same then more it.times it.allows t else t))
    by true same = refl
    by false true = more_swaps it.times it.allows b t
    by false false = refl

joined_swaps : (counts : List Counted) (words : List ℕ) (b : Bool) (t : Tally) → joined counts words (once_more b t) ≡ once_more b (joined counts words t)
joined_swaps [] words b t = refl
joined_swaps (it ∷ counts) words b t =
    ap (λ (x : Tally). joined counts words x) (with_swaps it words b t) ∙ joined_swaps counts words b (with_count it words t)

abbrev once : Counted → Counted
once it = record it { times = one_more it.times }

zero_is : (n : ℕ) → (n == 0) ≡ true → n ≡ 0
zero_is n e = grind (arith, nat_tests)

once_counted : (it : Counted) (words : List ℕ) (t : Tally) → with_count (once it) words t ≡ (if bytes_eq (string_bytes it.words) words then once_more it.allows (with_count it words t) else with_count it words t)
once_counted it words t =
    ap (λ (b : Bool). if b then t else added (string_bytes it.words) (one_more it.times) it.allows words t) (one_is_some it.times)
    ∙ by (it.times == 0) (bytes_eq (string_bytes it.words) words) refl
  where
    by : (none same : Bool) → (it.times == 0) ≡ none → (if same then more (one_more it.times) it.allows t else t)
        ≡ (if same then once_more it.allows (if none then t else (if same then more it.times it.allows t else t)) else (if none then t else (if same then more it.times it.allows t else t)))
    by true true e = first_more it.times it.allows t (zero_is it.times e)
    by true false e = refl
    by false true e = more_once it.times it.allows t
    by false false e = refl

joined_once : (counts : List Counted) (i : ℕ) (d : Counted) (words : List ℕ) (t : Tally) → i < length counts →
    joined (set counts i (once (get_or counts i d))) words t
    ≡ (if bytes_eq (string_bytes (get_or counts i d).words) words then once_more (get_or counts i d).allows (joined counts words t) else joined counts words t)
joined_once [] i d words t lt = absurd (omega arith)
joined_once (it ∷ counts) zero d words t lt =
    ap (λ (x : Tally). joined counts words x) (once_counted it words t) ∙ by (bytes_eq (string_bytes it.words) words)
  where
    by : (b : Bool) → joined counts words (if b then once_more it.allows (with_count it words t) else with_count it words t)
        ≡ (if b then once_more it.allows (joined counts words (with_count it words t)) else joined counts words (with_count it words t))
    by true = joined_swaps counts words it.allows (with_count it words t)
    by false = refl
joined_once (it ∷ counts) (suc i) d words t lt = joined_once counts i d words (with_count it words t) (omega arith)

-- of which line it is

of_line : (list : List Words) (counts : List Counted) (i : ℕ) (d : Counted) (line : Words) → AreOf counts list → i < length counts → slice_get list i ≡ Some line → IsOf line (get_or counts i d)
of_line list [] i d line are lt is = absurd (omega arith)
of_line [] (it ∷ counts) i d line are lt is = absurd are
of_line (l ∷ list) (it ∷ counts) zero d line are lt is =
    let same : l ≡ line = cc in
    subst (λ (x : Words). IsOf x it) same are.0
of_line (l ∷ list) (it ∷ counts) (suc i) d line are lt is = of_line list counts i d line are.1 (omega arith) is

still_of : (list : List Words) (counts : List Counted) (i n : ℕ) (d : Counted) → AreOf counts list → i < length counts → AreOf (set counts i (record (get_or counts i d) { times = n })) list
still_of list [] i n d are lt = absurd (omega arith)
still_of [] (it ∷ counts) i n d are lt = absurd are
still_of (l ∷ list) (it ∷ counts) zero n d are lt = are
still_of (l ∷ list) (it ∷ counts) (suc i) n d are lt = (are.0, still_of list counts i n d are.1 (omega arith))

pub counted_at : (counts : List Counted) (i : ℕ) (d : Counted) (list : List Words) (line : Words) → i < length counts → AreOf counts list → slice_get list i ≡ Some line →
    CountsAt counts (set counts i (once (get_or counts i d))) list line
counted_at counts i d list line lt are is =
    let it : Counted = get_or counts i d in
    let of : IsOf line it = of_line list counts i d line are lt is in
    record {
      are = still_of list counts i (one_more it.times) d are lt;
      counted = λ words t. joined_once counts i d words t lt
          ∙ ap (λ (ws : List ℕ). if bytes_eq ws words then once_more it.allows (joined counts words t) else joined counts words t) of.0
          ∙ ap (λ (a : Bool). if bytes_eq (line_text line) words then once_more a (joined counts words t) else joined counts words t) of.1;
    }

pub same_there : (counts : List Counted) (i : ℕ) (d e : Counted) → i < length counts → get_or counts i d ≡ get_or counts i e
same_there [] i d e lt = absurd (omega arith)
same_there (it ∷ counts) zero d e lt = refl
same_there (it ∷ counts) (suc i) d e lt = same_there counts i d e (omega arith)

-- a list comes in force

zip_push : (list : List Words) (counts : List Counted) (line : Words) (it : Counted) → AreOf counts list → IsOf line it → AreOf (counts ++ it ∷ []) (list ++ line ∷ [])
zip_push [] [] line it are is = (is, tt)
zip_push [] (c ∷ counts) line it are is = absurd are
zip_push (l ∷ list) [] line it are is = absurd are
zip_push (l ∷ list) (c ∷ counts) line it are is = (are.0, zip_push list counts line it are.1 is)

joined_push : (counts : List Counted) (it : Counted) (words : List ℕ) (t : Tally) → joined (counts ++ it ∷ []) words t ≡ with_count it words (joined counts words t)
joined_push [] it words t = refl
joined_push (c ∷ counts) it words t = joined_push counts it words (with_count c words t)

pub fresh_more : (list : List Words) (i : ℕ) (line : Words) (counts : List Counted) (it : Counted) → i < length list → line ≡ get_or list i line → IsFresh counts (take i list) → IsFreshOf it line → IsFresh (counts ++ it ∷ []) (take (i + 1) list)
fresh_more list i line counts it lt is before one =
    let longer : take (i + 1) list ≡ take i list ++ line ∷ [] = take_more list i line lt ∙ ap (λ (l : Words). take i list ++ l ∷ []) (sym is) in
    record {
      are = subst (λ (ls : List Words). AreOf (counts ++ it ∷ []) ls) (sym longer) (zip_push (take i list) counts line it before.are one.is);
      never = λ words t. joined_push counts it words t ∙ ap (λ (x : Tally). with_count it words x) (before.never words t)
          ∙ ap (λ (n : ℕ). if n == 0 then t else added (string_bytes it.words) n it.allows words t) one.never;
    }

-- of which line of the list in force

pub length_of : (list : List Words) (counts : List Counted) → AreOf counts list → length counts ≡ length list
length_of [] [] are = refl
length_of [] (c ∷ counts) are = absurd are
length_of (l ∷ list) [] are = absurd are
length_of (l ∷ list) (c ∷ counts) are = ap (λ (n : ℕ). suc n) (length_of list counts are.1)
