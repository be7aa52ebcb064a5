-- The spans of a list after an edit.
use Rattle.std.proofs.Common.{◌≡◌, ℕ, ◌-◌, List, ◌∷◌, true, Option, None, take, drop, ap, sym, subst}
use Rattle.std.proofs.lemmas.List.Elements.{All-append, All-push, All-cons, All-take, All-drop}
use Rattle.rv_access.specs.Words.{WindowWords, Words}
use Rattle.rv_access.specs.Windows.{is_open}
use Rattle.rv_table.specs.declared.edit.Edit.{Edit}
use Rattle.rv_table.specs.declared.edit.Edit.TheVariants.{Append, Remove, Replace}
use Rattle.rv_table.specs.Edits.{Brings, CanEdit, edited}
use Rattle.rv_table.specs.Rows.{is_open_at}
use Rattle.rv_table.specs.Spans.{AreEnds, HasEnds}

opens : (window : Option WindowWords) (tick : ℕ) → window ≡ None → true ≡ is_open window tick
opens window tick none = sym (ap (λ (w : Option WindowWords). is_open w tick) none)

-- the line that it brings has no window
pub always_open : (edit : Edit) (lines tick : ℕ) → CanEdit edit lines → Brings edit (is_open_at tick) true
always_open (Append line) lines tick can = opens line.now.window tick can.1
always_open (Remove number) lines tick can = tt {0}
always_open (Replace number line) lines tick can = opens line.now.window tick can.1

ends_nothing : (ends : List ℕ) (window : Option WindowWords) → window ≡ None → HasEnds ends window
ends_nothing ends window none = subst (HasEnds ends) (sym none) (tt {0})

-- the ends of all windows stay
pub ends_stay : (edit : Edit) (lines : ℕ) (ends : List ℕ) (list : List Words) → CanEdit edit lines → AreEnds ends list → AreEnds ends (edited edit list)
ends_stay (Append line) lines ends list can are = All-push (λ (l : Words). HasEnds ends l.window) list line.now are (ends_nothing ends line.now.window can.1)
ends_stay (Remove number) lines ends list can are =
    All-append (λ (l : Words). HasEnds ends l.window) (take (number - 1) list) (drop number list)
    (All-take (λ (l : Words). HasEnds ends l.window) (number - 1) list are) (All-drop (λ (l : Words). HasEnds ends l.window) number list are)
ends_stay (Replace number line) lines ends list can are =
    All-append (λ (l : Words). HasEnds ends l.window) (take (number - 1) list) (line.now ∷ drop number list)
    (All-take (λ (l : Words). HasEnds ends l.window) (number - 1) list are)
    (All-cons (λ (l : Words). HasEnds ends l.window) line.now (drop number list) (ends_nothing ends line.now.window can.1)
    (All-drop (λ (l : Words). HasEnds ends l.window) number list are))
