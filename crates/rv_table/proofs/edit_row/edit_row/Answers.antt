use Rattle.std.proofs.Common.{◌≡◌, ℕ, ◌-◌, ◌<◌, ◌≤◌, ◌∙◌, length, arith, ap, sym, subst}
use Rattle.rv_table.specs.declared.edit.Edit.{Edit}
use Rattle.rv_table.specs.declared.edit.Edit.TheVariants.{Append, Replace}
use Rattle.rv_table.specs.Edits.{Brings, CanEdit, HasLine, edited}
use Rattle.rv_table.specs.Rows.{IsRow, has, with_first, without}
use Rattle.rv_table.proofs.Edited.{AreMarks, appended_row, removed_row, replaced_row}
use Rattle.rv_table.proofs.edit_row.edit_row.Goals as goal

pub returns-in-Append : goal.returns-in-Append
returns-in-Append c = λ list passes long brings ours.
    let can : CanEdit (Append c.in-Append.field-0) c.args.lines = subst (λ (e : Edit). CanEdit e c.args.lines) c.in-Append.is c.requires in
    let is : Brings (Append c.in-Append.field-0) passes c.args.is_marked = subst (λ (e : Edit). Brings e passes c.args.is_marked) c.in-Append.is brings in
    let few : length list < 512 = omega (arith, can.0, long) in
    let are : AreMarks (with_first c.args.is_marked c.args.row.now) c.with_first.result = record { within = c.with_first.ensures.marks; behind = c.with_first.ensures.behind } in
    subst (λ (e : Edit). IsRow passes (edited e list) c.with_first.result) (sym c.in-Append.is)
    (appended_row passes list c.in-Append.field-0.now c.args.is_marked c.args.row.now c.with_first.result few is are ours)

pub returns-in-Remove : goal.returns-in-Remove
returns-in-Remove c = λ list passes long brings ours.
    let number : ℕ = c.in-Remove.number in
    let can : HasLine number c.args.lines = subst (λ (e : Edit). CanEdit e c.args.lines) c.in-Remove.is c.requires in
    let there : number ≤ length list = omega (arith, can.there, long) in
    let few : length list ≤ 512 = omega (arith, can.few, long) in
    let place : c.args.lines - number ≡ length list - number = ap (λ (n : ℕ). n - number) long in
    let given : AreMarks (without (c.args.lines - number) c.args.row.now) c.without.result = record { within = c.without.ensures.marks; behind = c.without.ensures.behind } in
    let are : AreMarks (without (length list - number) c.args.row.now) c.without.result = subst (λ (p : ℕ). AreMarks (without p c.args.row.now) c.without.result) place given in
    subst (λ (e : Edit). IsRow passes (edited e list) c.without.result) (sym c.in-Remove.is)
    (removed_row passes list number c.args.row.now c.without.result can.counted there few are ours)

pub returns-in-Replace : goal.returns-in-Replace
returns-in-Replace c = λ list passes long brings ours.
    let number : ℕ = c.in-Replace.number in
    let line = c.in-Replace.field-1 in
    let row = c.put_mark.new.words in
    let both : CanEdit (Replace number line) c.args.lines = subst (λ (e : Edit). CanEdit e c.args.lines) c.in-Replace.is c.requires in
    let can : HasLine number c.args.lines = both.0 in
    let is : Brings (Replace number line) passes c.args.is_marked = subst (λ (e : Edit). Brings e passes c.args.is_marked) c.in-Replace.is brings in
    let there : number ≤ length list = omega (arith, can.there, long) in
    let place : length list - number ≡ c.args.lines - number = ap (λ (n : ℕ). n - number) (sym long) in
    subst (λ (e : Edit). IsRow passes (edited e list) row) (sym c.in-Replace.is)
    (replaced_row passes list number line.now c.args.is_marked c.args.row.now row can.counted there is (ap (has row) place ∙ c.put_mark.ensures.here) (λ other apart. c.put_mark.ensures.others other (λ e. apart (e ∙ sym place))) ours)
