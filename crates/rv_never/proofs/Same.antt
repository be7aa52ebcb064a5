-- Operations that are among others.
use Rattle.std.proofs.Common.{◌≡◌, ℕ, ◌+◌, ◌<◌, ◌≤◌, List, [], ◌∷◌, ◌++◌, length, take, get_or, Bool, true, false, refl, ap, sym, ◌∙◌, arith, append_assoc}
use Rattle.std.specs.Prelude.{◌==◌, ◌&&◌, ◌||◌}
use Rattle.std.specs.List.{list_any}
use Rattle.std.proofs.lemmas.Bool.{and_parts}
use Rattle.std.proofs.lemmas.Bool.Decides.{nat_tests}
use Rattle.std.proofs.lemmas.List.{append-nil, take_all, take_more}
use Rattle.std.proofs.lemmas.List.Folds.{list_any-append}
use Rattle.std.proofs.lemmas.Grind.{flat_map-append}
use Rattle.rv_never.specs.Nevers.{calls_of}
use Rattle.rv_never.specs.Written.{AreSame, is_among, is_same}
use Rattle.rv_never.specs.declared.calls.Called.{Called}
use Rattle.rv_never.specs.declared.calls.TaskCalls.{TaskCalls}

pub equal : (a b : ℕ) → (a == b) ≡ true → a ≡ b
equal a b e = grind (arith, nat_tests)

-- one operation is among the same as another that it is
found_alike : (calls : List Called) (one other : Called) → is_same one other ≡ true → is_among calls one ≡ is_among calls other
found_alike calls one other e =
    let parts = and_parts (one.object == other.object) (one.operation == other.operation) e in
    let object : one.object ≡ other.object = equal one.object other.object parts.0 in
    let operation : one.operation ≡ other.operation = equal one.operation other.operation parts.1 in
    λ i. list_any (λ x. (object i == x.object) && (operation i == x.operation)) calls

or_false : (b : Bool) → (b || false) ≡ b
or_false true = refl
or_false false = refl

or_true : (b c : Bool) → b ≡ true → (b || c) ≡ b
or_true true c e = refl
or_true false c e = absurd (cc)

pub among_more : (calls : List Called) (called other : Called) → is_among (calls ++ called ∷ []) other ≡ (is_among calls other || is_same other called)
among_more calls called other =
    list_any-append (is_same other) calls (called ∷ []) ∙ ap (λ b. is_among calls other || b) (or_false (is_same other called))

-- nothing changes with one that is there
pub with_known : (calls : List Called) (called : Called) → is_among calls called ≡ true → AreSame calls (calls ++ called ∷ [])
with_known calls called there = λ other. sym (among_more calls called other ∙ by_same other (is_same other called) refl)
  where
    by_same : (other : Called) (b : Bool) → is_same other called ≡ b → (is_among calls other || b) ≡ is_among calls other
    by_same other true e = or_true (is_among calls other) true (found_alike calls other called e ∙ there)
    by_same other false e = or_false (is_among calls other)

pub with_new : (calls more : List Called) (called : Called) → more ≡ calls ++ called ∷ [] → AreSame more (calls ++ called ∷ [])
with_new calls more called e = λ other. ap (λ (xs : List Called). is_among xs other) e

pub appended : (calls others more : List Called) → AreSame calls others → AreSame (calls ++ more) (others ++ more)
appended calls others more same = λ other.
    list_any-append (is_same other) calls more ∙ (ap (λ b. b || is_among more other) (same other) ∙ sym (list_any-append (is_same other) others more))

pub chained : (one two three : List Called) → AreSame one two → AreSame two three → AreSame one three
chained one two three first second = λ other. first other ∙ second other

pub by_equal : (one two : List Called) → one ≡ two → AreSame one two
by_equal one two e = λ other. ap (λ (xs : List Called). is_among xs other) e

-- those that were there, and then some first of others
pub none_added : (calls others : List Called) → AreSame calls (calls ++ take 0 others)
none_added calls others = by_equal calls (calls ++ take 0 others) (sym (append-nil calls))

pub one_added : (before calls more others : List Called) (i : ℕ) (d : Called) → i < length others → AreSame calls (before ++ take i others) → AreSame more (calls ++ get_or others i d ∷ []) → AreSame more (before ++ take (i + 1) others)
one_added before calls more others i d less so_far added =
    let split : (before ++ take i others) ++ get_or others i d ∷ [] ≡ before ++ take (i + 1) others =
    append_assoc before (take i others) (get_or others i d ∷ []) ∙ ap (λ (xs : List Called). before ++ xs) (sym (take_more others i d less)) in
    chained more (calls ++ get_or others i d ∷ []) (before ++ take (i + 1) others) added
    (chained (calls ++ get_or others i d ∷ []) ((before ++ take i others) ++ get_or others i d ∷ []) (before ++ take (i + 1) others)
    (appended calls (before ++ take i others) (get_or others i d ∷ []) so_far)
    (by_equal ((before ++ take i others) ++ get_or others i d ∷ []) (before ++ take (i + 1) others) split))

pub all_added : (before calls others : List Called) (i : ℕ) → length others ≤ i → AreSame calls (before ++ take i others) → AreSame calls (before ++ others)
all_added before calls others i past so_far =
    chained calls (before ++ take i others) (before ++ others) so_far (by_equal (before ++ take i others) (before ++ others) (ap (λ (xs : List Called). before ++ xs) (take_all i others past)))

-- those of one task, and then those of the others
pub joined : (before calls after first others : List Called) → AreSame calls (before ++ first) → AreSame after (calls ++ others) → AreSame after (before ++ (first ++ others))
joined before calls after first others one two =
    chained after (calls ++ others) (before ++ (first ++ others)) two
    (chained (calls ++ others) ((before ++ first) ++ others) (before ++ (first ++ others)) (appended calls (before ++ first) others one)
    (by_equal ((before ++ first) ++ others) (before ++ (first ++ others)) (append_assoc before first others)))

-- those of one task more
pub joined_more : (before calls after : List Called) (tasks : List TaskCalls) (i : ℕ) (task : TaskCalls) (more : List Called) → i < length tasks → task ≡ get_or tasks i task → more ≡ task.calls.items
    → AreSame calls (before ++ calls_of (take i tasks)) → AreSame after (calls ++ more) → AreSame after (before ++ calls_of (take (i + 1) tasks))
joined_more before calls after tasks i task more less is given so_far added =
    let f : TaskCalls → List Called = λ t. t.calls.items in
    let front : List TaskCalls = take i tasks in
    let whole : calls_of (take (i + 1) tasks) ≡ calls_of front ++ more =
    ap (λ (ts : List TaskCalls). calls_of ts) (take_more tasks i task less)
    ∙ (flat_map-append f front (get_or tasks i task ∷ [])
    ∙ ap (λ (xs : List Called). calls_of front ++ xs) (append-nil (f (get_or tasks i task)) ∙ (sym (ap f is) ∙ sym given))) in
    chained after (calls ++ more) (before ++ calls_of (take (i + 1) tasks)) added
    (chained (calls ++ more) ((before ++ calls_of front) ++ more) (before ++ calls_of (take (i + 1) tasks)) (appended calls (before ++ calls_of front) more so_far)
    (by_equal ((before ++ calls_of front) ++ more) (before ++ calls_of (take (i + 1) tasks))
    (append_assoc before (calls_of front) more ∙ ap (λ (xs : List Called). before ++ xs) (sym whole))))
