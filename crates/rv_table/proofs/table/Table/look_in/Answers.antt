use Rattle.std.proofs.Common.{rules, arith, ◌≡◌, ◌≤◌, ◌∙◌, ap, subst, sym, length, Some}
use Rattle.rv_table.proofs.Looks.{found, unseen, decides_few}
use Rattle.rv_access.specs.Lines.{decides}
use Rattle.rv_table.specs.Rows.{IsRow, is_open_at, of_caller, passes_both}
use Rattle.rv_table.specs.Spans.{IsSpans}
use Rattle.rv_table.specs.Tables.{Marks, allowed, row_of}
use Rattle.rv_table.proofs.table.Table.look_in.Goals as goal

pub returns-in_default-clause-line : goal.returns-in_default-clause-line
returns-in_default-clause-line c = λ list shapes caller is mine.
    sym (unseen list shapes c.args.self.now c.args.object c.args.operation caller c.args.tick is (sym c.in_default.ensures)).0

pub returns-in_default-clause-granted : goal.returns-in_default-clause-granted
returns-in_default-clause-granted c = λ list shapes caller is mine.
    sym (unseen list shapes c.args.self.now c.args.object c.args.operation caller c.args.tick is (sym c.in_default.ensures)).1

pub returns-clause-line : goal.returns-clause-line
returns-clause-line c = λ list shapes caller is mine.
    let there : row_of c.args.self.now.objects c.args.object c.args.operation ≡ Some c.in-Some.theirs.now = sym c.in-Some.ensures in
    let at = found list shapes c.args.self.now c.args.object c.args.operation c.in-Some.theirs.now is there in
    let count : c.self.inside.lines ≡ length list = first_of (search (rules, is.count), grind (arith, is.count)) in
    let open_now : IsRow (passes_both (of_caller caller) (is_open_at c.args.tick)) list c.open_of-open.result = c.open_of-open.ensures list (of_caller caller) is.few (subst (λ (marks : Marks). IsSpans list marks.spans) (sym c.self.view_is) is.spans) mine in
    c.deciding-number.ensures list caller at.site at.name c.args.tick count is.few open_now at.is_row ∙ sym (at.line caller c.args.tick)

pub returns-clause-granted : goal.returns-clause-granted
returns-clause-granted c = λ list shapes caller is mine.
    let there : row_of c.args.self.now.objects c.args.object c.args.operation ≡ Some c.in-Some.theirs.now = sym c.in-Some.ensures in
    let at = found list shapes c.args.self.now c.args.object c.args.operation c.in-Some.theirs.now is there in
    let count : c.self.inside.lines ≡ length list = first_of (search (rules, is.count), grind (arith, is.count)) in
    let open_now : IsRow (passes_both (of_caller caller) (is_open_at c.args.tick)) list c.open_of-open.result = c.open_of-open.ensures list (of_caller caller) is.few (subst (λ (marks : Marks). IsSpans list marks.spans) (sym c.self.view_is) is.spans) mine in
    let number : c.deciding-number.result ≡ decides list caller at.site at.name c.args.tick = c.deciding-number.ensures list caller at.site at.name c.args.tick count is.few open_now at.is_row in
    let few : c.deciding-number.result ≤ length list = omega (arith, number, decides_few list caller at.site at.name c.args.tick) in
    c.allows.ensures list shapes is few ∙ ap (allowed list) number ∙ sym (at.grant caller c.args.tick)
