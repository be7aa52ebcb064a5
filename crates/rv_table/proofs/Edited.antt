-- What an edit makes of the row of a list is the row of the edited list.
use Rattle.std.proofs.Common.{◌≡◌, ◌≢◌, ℕ, ◌+◌, ◌-◌, ◌<◌, ◌≤◌, List, [], ◌∷◌, length, get_or, set, take, drop, Bool, true, false, arith, ap, sym, ◌∙◌, refl, length-append, length-drop, subst}
use Rattle.std.specs.Prelude.{◌==◌, nat_lt, if◌then◌else◌}
use Rattle.std.proofs.Math.ListN.{get_or-append}
use Rattle.std.proofs.Math.Seq.{get_or-append_seam}
use Rattle.std.proofs.lemmas.Bool.Decides.{nat_tests}
use Rattle.std.proofs.lemmas.Grind.{get_or-set_at}
use Rattle.std.proofs.lemmas.List.{get_or-append_right, get_or-drop, get_or-set_other, get_or-take, length-set, length-take-le}
use Rattle.rv_access.proofs.Putting.{put_is}
use Rattle.rv_access.specs.Changes.{appended, removed, replaced}
use Rattle.rv_access.specs.Words.{Words}
use Rattle.rv_table.specs.declared.edit.Edit.{Edit}
use Rattle.rv_table.specs.declared.edit.Edit.TheVariants.{Append, Remove, Replace}
use Rattle.rv_table.specs.Edits.{CanEdit, edited, lines_after}
use Rattle.rv_table.specs.Rows.{has, one, IsRow, with_first, without}

-- marks below 512 are these, and there are no others
pub record AreMarks (marks : ℕ → ℕ) (row : List ℕ) : Type 0 where
  pub within : (place : ℕ) → place < 512 → has row place ≡ marks place
  pub behind : (place : ℕ) → 512 ≤ place → has row place ≡ 0

-- where no mark is behind a place, none of a row of these is
end_of : (marks : ℕ → ℕ) (row : List ℕ) (place : ℕ) → AreMarks marks row → marks place ≡ 0 → has row place ≡ 0
end_of marks row place are none = by_side (nat_lt place 512) refl
  where
    by_side : (t : Bool) → nat_lt place 512 ≡ t → has row place ≡ 0
    by_side true is = are.within place (grind (arith, nat_tests)) ∙ none
    by_side false is = are.behind place (grind (arith, nat_tests))

-- a line more

first_mark : (b : Bool) (ws : List ℕ) → with_first b ws 0 ≡ one b
first_mark b ws = refl

later_mark : (b : Bool) (ws : List ℕ) (place : ℕ) → 0 < place → with_first b ws place ≡ has ws (place - 1)
later_mark b ws place some =
    let later : (place == 0) ≡ false = grind (arith, nat_tests) in
    ap (λ t. if t then one b else has ws (place - 1)) later

pub appended_row : (passes : Words → Bool) (list : List Words) (line : Words) (b : Bool) (ws row : List ℕ) → length list < 512 → b ≡ passes line → AreMarks (with_first b ws) row → IsRow passes list ws → IsRow passes (appended list line) row
appended_row passes list line b ws row few is are ours = record {
  lines = λ d i within. by_side d i within (nat_lt i (length list)) refl;
  behind = λ j past.
      let longer : length list + 1 ≤ j = omega (arith, past, length-append list (line ∷ [])) in
      end_of (with_first b ws) row j are (later_mark b ws j (omega (arith, longer)) ∙ ours.behind (j - 1) (omega (arith, longer)));
}
  where
    long : length (appended list line) ≡ length list + 1
    long = omega (arith, length-append list (line ∷ []))

    by_side : (d : Words) (i : ℕ) → i < length (appended list line) → (t : Bool) → nat_lt i (length list) ≡ t → has row (length (appended list line) - 1 - i) ≡ one (passes (get_or (appended list line) i d))
    by_side d i within true e =
        let less : i < length list = grind (arith, nat_tests) in
        let place : length (appended list line) - 1 - i ≡ length list - i = omega (arith, long) in
        let before : length list - i - 1 ≡ length list - 1 - i = omega arith in
        ap (has row) place
        ∙ are.within (length list - i) (omega (arith, few))
        ∙ later_mark b ws (length list - i) (omega (arith, less))
        ∙ ap (has ws) before ∙ ours.lines d i less
        ∙ ap (λ l. one (passes l)) (sym (get_or-append list (line ∷ []) d i less))
    by_side d i within false e =
        let past : length list ≤ i = grind (arith, nat_tests) in
        let last : i ≡ length list = omega (arith, past, within, long) in
        let place : length (appended list line) - 1 - i ≡ 0 = omega (arith, long, last) in
        ap (has row) place ∙ are.within 0 (omega arith) ∙ ap one is
        ∙ ap (λ l. one (passes l)) (sym (ap (λ k. get_or (appended list line) k d) last ∙ get_or-append_seam list line [] d))

-- a line less

kept_mark : (gone : ℕ) (ws : List ℕ) (place : ℕ) → place < gone → without gone ws place ≡ has ws place
kept_mark gone ws place less =
    let before : nat_lt place gone ≡ true = grind (arith, nat_tests) in
    ap (λ t. if t then has ws place else has ws (place + 1)) before

next_mark : (gone : ℕ) (ws : List ℕ) (place : ℕ) → gone ≤ place → without gone ws place ≡ has ws (place + 1)
next_mark gone ws place past =
    let behind : nat_lt place gone ≡ false = grind (arith, nat_tests) in
    ap (λ t. if t then has ws place else has ws (place + 1)) behind

removed_long : (list : List Words) (number : ℕ) → 0 < number → number ≤ length list → length (removed list number) ≡ length list - 1
removed_long list number some there =
    omega (arith, length-append (take (number - 1) list) (drop number list), length-take-le (number - 1) list (omega arith), length-drop number list)

removed_before : (list : List Words) (number i : ℕ) (d : Words) → number ≤ length list → i < number - 1 → get_or (removed list number) i d ≡ get_or list i d
removed_before list number i d there less =
    get_or-append (take (number - 1) list) (drop number list) d i (omega (arith, length-take-le (number - 1) list (omega arith), less))
    ∙ get_or-take (number - 1) list i d less

removed_behind : (list : List Words) (number i : ℕ) (d : Words) → 0 < number → number ≤ length list → number - 1 ≤ i → get_or (removed list number) i d ≡ get_or list (i + 1) d
removed_behind list number i d some there past =
    let at : number + (i - (number - 1)) ≡ i + 1 = omega (arith, some, past) in
    get_or-append_right (take (number - 1) list) (drop number list) (number - 1) i d (length-take-le (number - 1) list (omega arith)) past
    ∙ get_or-drop number list (i - (number - 1)) d
    ∙ ap (λ k. get_or list k d) at

pub removed_row : (passes : Words → Bool) (list : List Words) (number : ℕ) (ws row : List ℕ) → 0 < number → number ≤ length list → length list ≤ 512 → AreMarks (without (length list - number) ws) row → IsRow passes list ws → IsRow passes (removed list number) row
removed_row passes list number ws row some there few are ours = record {
  lines = λ d i within. by_side d i within (nat_lt i (number - 1)) refl;
  behind = λ j past.
      let shorter : length list - 1 ≤ j = omega (arith, past, long) in
      end_of (without gone ws) row j are (next_mark gone ws j (omega (arith, shorter, some)) ∙ ours.behind (j + 1) (omega (arith, shorter)));
}
  where
    gone : ℕ
    gone = length list - number

    long : length (removed list number) ≡ length list - 1
    long = removed_long list number some there

    by_side : (d : Words) (i : ℕ) → i < length (removed list number) → (t : Bool) → nat_lt i (number - 1) ≡ t → has row (length (removed list number) - 1 - i) ≡ one (passes (get_or (removed list number) i d))
    by_side d i within true e =
        let less : i < number - 1 = grind (arith, nat_tests) in
        let place : length (removed list number) - 1 - i ≡ length list - 2 - i = omega (arith, long) in
        let next : length list - 2 - i + 1 ≡ length list - 1 - i = omega (arith, less, there) in
        ap (has row) place
        ∙ are.within (length list - 2 - i) (omega (arith, few))
        ∙ next_mark gone ws (length list - 2 - i) (omega (arith, less, there))
        ∙ ap (has ws) next ∙ ours.lines d i (omega (arith, less, there))
        ∙ ap (λ l. one (passes l)) (sym (removed_before list number i d there less))
    by_side d i within false e =
        let past : number - 1 ≤ i = grind (arith, nat_tests) in
        let inside : i + 1 < length list = omega (arith, within, long) in
        let place : length (removed list number) - 1 - i ≡ length list - 1 - (i + 1) = omega (arith, long) in
        ap (has row) place
        ∙ are.within (length list - 1 - (i + 1)) (omega (arith, few, inside))
        ∙ kept_mark gone ws (length list - 1 - (i + 1)) (omega (arith, past, inside, some))
        ∙ ours.lines d (i + 1) inside
        ∙ ap (λ l. one (passes l)) (sym (removed_behind list number i d some there past))

-- another line in place of one

pub replaced_row : (passes : Words → Bool) (list : List Words) (number : ℕ) (line : Words) (b : Bool) (ws row : List ℕ) → 0 < number → number ≤ length list → b ≡ passes line →
    has row (length list - number) ≡ one b → ((other : ℕ) → other ≢ length list - number → has row other ≡ has ws other) → IsRow passes list ws → IsRow passes (replaced list number line) row
replaced_row passes list number line b ws row some there is here others ours =
    subst (λ (xs : List Words). IsRow passes xs row) (put_is list number line some there) (record {
      lines = λ d i within. by_place d i (omega (arith, within, long)) (i == number - 1) refl;
      behind = λ j past.
          let outside : length list ≤ j = omega (arith, past, long) in
          let apart : j ≢ length list - number = λ e. omega (arith, outside, e, some, there) in
          others j apart ∙ ours.behind j outside;
    })
  where
    put : List Words
    put = set list (number - 1) line

    long : length put ≡ length list
    long = length-set list (number - 1) line

    by_place : (d : Words) (i : ℕ) → i < length list → (t : Bool) → (i == number - 1) ≡ t → has row (length put - 1 - i) ≡ one (passes (get_or put i d))
    by_place d i within true e =
        let same : i ≡ number - 1 = grind (arith, nat_tests) in
        let place : length put - 1 - i ≡ length list - number = omega (arith, long, same, some) in
        ap (has row) place ∙ here ∙ ap one is
        ∙ ap (λ l. one (passes l)) (sym (get_or-set_at list (number - 1) i line d same (omega (arith, some, there))))
    by_place d i within false e =
        let other : i ≢ number - 1 = grind (arith, nat_tests) in
        let place : length put - 1 - i ≡ length list - 1 - i = omega (arith, long) in
        let apart : length list - 1 - i ≢ length list - number = λ e. other (omega (arith, e, within, some, there)) in
        ap (has row) place ∙ others (length list - 1 - i) apart ∙ ours.lines d i within
        ∙ ap (λ l. one (passes l)) (sym (get_or-set_other list (number - 1) i line d other))

-- how many lines there are

pub edited_long : (edit : Edit) (list : List Words) → CanEdit edit (length list) → length (edited edit list) ≡ lines_after edit (length list)
edited_long (Append line) list can = omega (arith, length-append list (line.now ∷ []))
edited_long (Remove number) list can = removed_long list number can.counted can.there
edited_long (Replace number line) list can =
    sym (ap (λ (xs : List Words). length xs) (put_is list number line.now can.0.counted can.0.there)) ∙ length-set list (number - 1) line.now

pub edited_few : (edit : Edit) (lines : ℕ) → CanEdit edit lines → lines_after edit lines ≤ 512
edited_few (Append line) lines can = omega (arith, can.0)
edited_few (Remove number) lines can = omega (arith, can.few)
edited_few (Replace number line) lines can = can.0.few

pub lines_few : (edit : Edit) (lines : ℕ) → CanEdit edit lines → lines ≤ 512
lines_few (Append line) lines can = omega (arith, can.0)
lines_few (Remove number) lines can = can.few
lines_few (Replace number line) lines can = can.0.few
