-- Notes that come behind others, each that is due.
use Rattle.std.proofs.Common.{◌≡◌, ℕ, ◌+◌, ◌<◌, ◌≤◌, ◌⊎◌, inl, inr, List, [], ◌∷◌, ◌++◌, length, get_or, take, sym, subst, arith}
use Rattle.std.specs.Prelude.{◌↔◌, Result, Ok, Err, OnOk}
use Rattle.std.specs.List.{Contains}
use Rattle.std.proofs.lemmas.Bool.{cases_lt}
use Rattle.std.proofs.lemmas.List.{take_all, take_more}
use Rattle.std.proofs.lemmas.List.Elements.{Contains-append_left, Contains-push, Contains-push_cases}
use Rattle.rv_never.specs.Nevers.{Adds, AreAll, DueBelow, DueBy, IsThis}
use Rattle.rv_never.specs.declared.note.Never.{Never}

pub nothing : (notes : List Never) → Adds (λ note. ⊥) notes notes
nothing notes = record {
  kept = λ note c. c;
  due = λ note c. inl c;
  all = λ note none. absurd none;
}

pub both : (P Q : Never → Type 0) (one two three : List Never) → Adds P one two → Adds Q two three → Adds (λ note. P note ⊎ Q note) one three
both P Q one two three first second = record {
  kept = λ note c. second.kept note (first.kept note c);
  due = λ note c. by_second note (second.due note c);
  all = λ note d. by_due note d;
}
  where
    by_first : (note : Never) → Contains one note ⊎ P note → Contains one note ⊎ (P note ⊎ Q note)
    by_first note (inl c) = inl c
    by_first note (inr p) = inr (inl p)

    by_second : (note : Never) → Contains two note ⊎ Q note → Contains one note ⊎ (P note ⊎ Q note)
    by_second note (inl c) = by_first note (first.due note c)
    by_second note (inr q) = inr (inr q)

    by_due : (note : Never) → P note ⊎ Q note → Contains three note
    by_due note (inl p) = second.kept note (first.all note p)
    by_due note (inr q) = second.all note q

-- what is due, said in another way
pub alike : (P Q : Never → Type 0) (before after : List Never) → ((note : Never) → P note → Q note) → ((note : Never) → Q note → P note) → Adds P before after → Adds Q before after
alike P Q before after to from adds = record {
  kept = adds.kept;
  due = λ note c. by_due note (adds.due note c);
  all = λ note q. adds.all note (from note q);
}
  where
    by_due : (note : Never) → Contains before note ⊎ P note → Contains before note ⊎ Q note
    by_due note (inl c) = inl c
    by_due note (inr p) = inr (to note p)

-- One note

pub told : (notes more : List Never) (note : Never) (P : Type 0) → more ≡ notes ++ note ∷ [] → P → Adds (IsThis note P) notes more
told notes more note P is p = record {
  kept = λ other c. subst (λ (ns : List Never). Contains ns other) (sym is) (Contains-append_left notes (note ∷ []) other c);
  due = λ other c. by_place other (Contains-push_cases notes note other (subst (λ (ns : List Never). Contains ns other) is c));
  all = λ other d. subst (λ (ns : List Never). Contains ns other) (sym is) (subst (λ (n : Never). Contains (notes ++ note ∷ []) n) (sym d.0) (Contains-push notes note));
}
  where
    by_place : (other : Never) → Contains notes other ⊎ (note ≡ other) → Contains notes other ⊎ IsThis note P other
    by_place other (inl c) = inl c
    by_place other (inr e) = inr (sym e, p)

pub untold : (notes : List Never) (note : Never) (P : Type 0) → (P → ⊥) → Adds (IsThis note P) notes notes
untold notes note P none = record {
  kept = λ other c. c;
  due = λ other c. inl c;
  all = λ other d. absurd (none d.1);
}

pub there : (notes : List Never) (note : Never) (P : Type 0) → Contains notes note → Adds (IsThis note P) notes notes
there notes note P c = record {
  kept = λ other d. d;
  due = λ other d. inl d;
  all = λ other d. subst (λ (n : Never). Contains notes n) (sym d.0) c;
}

-- the same note, where the same holds
pub this_alike : (note : Never) (P Q : Type 0) (before after : List Never) → (P ↔ Q) → Adds (IsThis note P) before after → Adds (IsThis note Q) before after
this_alike note P Q before after same adds =
    alike (IsThis note P) (IsThis note Q) before after (λ other d. (d.0, same.0 d.1)) (λ other d. (d.0, same.1 d.1)) adds

pub this_on_ok : {X E : Type 0} (note : Never) (P Q : Type 0) (before after : List Never) (result : Result X E) → (P ↔ Q) → OnOk result (Adds (IsThis note P) before after) → OnOk result (Adds (IsThis note Q) before after)
this_on_ok note P Q before after (Ok x) same adds = this_alike note P Q before after same adds
this_on_ok note P Q before after (Err e) same adds = adds

-- Of elements, one by one

by_append : {X : Type 0} (Due : X → Never → Type 0) (xs : List X) (x : X) (note : Never) → DueBy Due (xs ++ x ∷ []) note → DueBy Due xs note ⊎ Due x note
by_append Due [] x note (inl d) = inr d
by_append Due [] x note (inr none) = absurd none
by_append Due (y ∷ ys) x note (inl d) = inl (inl d)
by_append Due (y ∷ ys) x note (inr d) = by_later (by_append Due ys x note d)
  where
    by_later : DueBy Due ys note ⊎ Due x note → DueBy Due (y ∷ ys) note ⊎ Due x note
    by_later (inl e) = inl (inr e)
    by_later (inr e) = inr e

before_append : {X : Type 0} (Due : X → Never → Type 0) (xs : List X) (x : X) (note : Never) → DueBy Due xs note → DueBy Due (xs ++ x ∷ []) note
before_append Due [] x note none = absurd none
before_append Due (y ∷ ys) x note (inl d) = inl d
before_append Due (y ∷ ys) x note (inr d) = inr (before_append Due ys x note d)

last_append : {X : Type 0} (Due : X → Never → Type 0) (xs : List X) (x : X) (note : Never) → Due x note → DueBy Due (xs ++ x ∷ []) note
last_append Due [] x note d = inl d
last_append Due (y ∷ ys) x note d = inr (last_append Due ys x note d)

pub none_by : {X : Type 0} (Due : X → Never → Type 0) (xs : List X) (notes : List Never) → Adds (DueBy Due (take 0 xs)) notes notes
none_by Due xs notes = record {
  kept = λ note c. c;
  due = λ note c. inl c;
  all = λ note none. absurd none;
}

pub more_at : {X : Type 0} (Due : X → Never → Type 0) (xs : List X) (i : ℕ) (d : X) (one two three : List Never) → i < length xs
    → Adds (DueBy Due (take i xs)) one two → Adds (Due (get_or xs i d)) two three → Adds (DueBy Due (take (i + 1) xs)) one three
more_at {X} Due xs i d one two three less first second =
    subst (λ (ys : List X). Adds (DueBy Due ys) one three) (sym (take_more xs i d less))
    (alike (λ note. DueBy Due (take i xs) note ⊎ Due (get_or xs i d) note) (DueBy Due (take i xs ++ get_or xs i d ∷ [])) one three to from
    (both (DueBy Due (take i xs)) (Due (get_or xs i d)) one two three first second))
  where
    to : (note : Never) → DueBy Due (take i xs) note ⊎ Due (get_or xs i d) note → DueBy Due (take i xs ++ get_or xs i d ∷ []) note
    to note (inl e) = before_append Due (take i xs) (get_or xs i d) note e
    to note (inr e) = last_append Due (take i xs) (get_or xs i d) note e

    from : (note : Never) → DueBy Due (take i xs ++ get_or xs i d ∷ []) note → DueBy Due (take i xs) note ⊎ Due (get_or xs i d) note
    from note e = by_append Due (take i xs) (get_or xs i d) note e

pub more_by : {X : Type 0} (Due : X → Never → Type 0) (xs : List X) (i : ℕ) (x : X) (one two three : List Never) → i < length xs → x ≡ get_or xs i x
    → Adds (DueBy Due (take i xs)) one two → Adds (Due x) two three → Adds (DueBy Due (take (i + 1) xs)) one three
more_by {X} Due xs i x one two three less is first second =
    more_at Due xs i x one two three less first (subst (λ (y : X). Adds (Due y) two three) is second)

pub all_by : {X : Type 0} (Due : X → Never → Type 0) (xs : List X) (i : ℕ) (one two : List Never) → length xs ≤ i → Adds (DueBy Due (take i xs)) one two → Adds (DueBy Due xs) one two
all_by {X} Due xs i one two past adds = subst (λ (ys : List X). Adds (DueBy Due ys) one two) (take_all i xs past) adds

-- Several

pub none_below : (Due : ℕ → Never → Type 0) (notes : List Never) → Adds (DueBelow Due 0) notes notes
none_below Due notes = record {
  kept = λ note c. c;
  due = λ note c. inl c;
  all = λ note d. absurd (omega (arith, d.1));
}

pub one_more : (Due : ℕ → Never → Type 0) (i : ℕ) (one two three : List Never) → Adds (DueBelow Due i) one two → Adds (Due i) two three → Adds (DueBelow Due (i + 1)) one three
one_more Due i one two three first second =
    alike (λ note. DueBelow Due i note ⊎ Due i note) (DueBelow Due (i + 1)) one three to from (both (DueBelow Due i) (Due i) one two three first second)
  where
    to : (note : Never) → DueBelow Due i note ⊎ Due i note → DueBelow Due (i + 1) note
    to note (inl d) = (d.0, omega (arith, d.1), d.2)
    to note (inr d) = (i, omega arith, d)

    split : (note : Never) (number : ℕ) → number < i + 1 → Due number note → (number < i) ⊎ (i ≤ number) → DueBelow Due i note ⊎ Due i note
    split note number less d (inl before_it) = inl (number, before_it, d)
    split note number less d (inr at) =
        let same : number ≡ i = omega (arith, less, at) in
        inr (subst (λ (n : ℕ). Due n note) same d)

    from : (note : Never) → DueBelow Due (i + 1) note → DueBelow Due i note ⊎ Due i note
    from note d = split note d.0 d.1 d.2 (cases_lt d.0 i)

-- All of them, from none on
pub finished : (P Q : Never → Type 0) (notes : List Never) → ((note : Never) → P note → Q note) → ((note : Never) → Q note → P note) → Adds P [] notes → AreAll Q notes
finished P Q notes to from adds = λ note. (λ c. by_due note (adds.due note c), λ q. adds.all note (from note q))
  where
    by_due : (note : Never) → Contains [] note ⊎ P note → Q note
    by_due note (inl c) = absurd (omega (arith, c.1))
    by_due note (inr p) = to note p
