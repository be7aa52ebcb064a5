-- The words of the lines of lists, list after list.
use Rattle.std.proofs.Common.{◌≡◌, ◌≤◌, ℕ, List, [], ◌∷◌, ◌++◌, length, get_or, drop, refl, ap, ◌∙◌, arith}
use Rattle.rv_access.specs.Text.{line_text}
use Rattle.rv_access.specs.Words.{Words}
use Rattle.rv_hits.specs.Hits.{with_lines, with_lists}
use Rattle.rv_tallied.specs.Tallies.{with_words}

pub lists_more : (seen : List (List ℕ)) (lists : List (List Words)) (list : List Words) → with_lists seen (lists ++ list ∷ []) ≡ with_lines (with_lists seen lists) list
lists_more seen [] list = refl
lists_more seen (first ∷ lists) list = lists_more (with_lines seen first) lists list

-- one line more
pub lines_more : (lines rest : List Words) (line : Words) (seen middle new : List (List ℕ)) (words : List ℕ) → 1 ≤ length lines → line ≡ get_or lines 0 line → rest ≡ drop 1 lines → words ≡ line_text line → middle ≡ with_words seen words → new ≡ with_lines middle rest →
    new ≡ with_lines seen lines
lines_more [] rest line seen middle new words le line_is rest_is words_is middle_is new_is = absurd (omega arith)
lines_more (l ∷ ls) rest line seen middle new words le line_is rest_is words_is middle_is new_is =
    new_is ∙ ap (λ (m : List (List ℕ)). with_lines m rest) middle_is
    ∙ ap (λ (w : List ℕ). with_lines (with_words seen w) rest) (words_is ∙ ap line_text line_is)
    ∙ ap (λ (ls : List Words). with_lines (with_words seen (line_text l)) ls) rest_is
