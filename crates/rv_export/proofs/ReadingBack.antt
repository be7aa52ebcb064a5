-- The texts of the lines are the journal.
use Rattle.std.proofs.Common.{◌≡◌, ℕ, suc, List, [], ◌∷◌, ◌++◌, length, refl, sym, ap, ◌∙◌, append_assoc}
use Rattle.std.specs.Fmt.{decimal}
use Rattle.rv_access.specs.Text.{list_text}
use Rattle.rv_access.specs.Words.{Words}
use Rattle.rv_shape.specs.Shape.{Shape}
use Rattle.rv_event.specs.Text.{entry_words}
use Rattle.rv_event.specs.declared.entry.Entry.{Entry}
use Rattle.rv_event.specs.declared.entry.Entry.TheVariants.{Asked, Load, ListChange}
use Rattle.rv_history.specs.declared.limits.Limits.{Limits}
use Rattle.rv_history.specs.History.{last_list}
use Rattle.rv_history.specs.Journal.{last_unit, lists_before, shapes_before}
use Rattle.rv_history.proofs.Growing.{grown_lines, named}
use Rattle.rv_export.specs.Exports.{TextsAreJournal, rows, text_lines, words}

-- one more line
one_more : (limits : Limits) (past : List Entry) (shapes before : List Shape) (lists lists_then : List (List Words)) (e : Entry) (unit list : List ℕ) → text_lines (rows limits past before lists_then) ≡ grown_lines past before lists_then →
    text_lines (rows limits past before lists_then) ++ (words shapes (suc (length past)) e unit list ++ 10 ∷ [])
    ≡ grown_lines past before lists_then ++ (decimal (suc (length past)) ++ 32 ∷ (entry_words shapes e unit list ++ 10 ∷ []))
one_more limits past shapes before lists lists_then e unit list so_far =
    ap (λ (t : List ℕ). t ++ (words shapes (suc (length past)) e unit list ++ 10 ∷ [])) so_far
    ∙ ap (λ (t : List ℕ). grown_lines past before lists_then ++ t) (append_assoc (decimal (suc (length past))) (32 ∷ entry_words shapes e unit list) (10 ∷ []))

grown : (limits : Limits) (past : List Entry) (shapes : List Shape) (lists : List (List Words)) → text_lines (rows limits past shapes lists) ≡ grown_lines past shapes lists
grown limits [] shapes lists = refl
grown limits (Asked a r w ∷ past) shapes lists =
    one_more limits past shapes shapes lists lists (Asked a r w) (last_unit shapes) (list_text (last_list lists)) (grown limits past shapes lists)
grown limits (Load ∷ past) shapes lists =
    one_more limits past shapes (shapes_before Load shapes) lists lists Load (last_unit shapes) (list_text (last_list lists)) (grown limits past (shapes_before Load shapes) lists)
grown limits (ListChange ∷ past) shapes lists =
    one_more limits past shapes shapes lists (lists_before ListChange lists) ListChange (last_unit shapes) (list_text (last_list lists)) (grown limits past shapes (lists_before ListChange lists))

pub texts_are_journal : TextsAreJournal
texts_are_journal h legal = grown h.limits h.past h.shapes h.lists ∙ sym (named h legal)
