use Rattle.std.proofs.Common.{◌≡◌, length, rules, tests, subst, sym}
use Rattle.rv_table.specs.Rows.{is_open_at}
use Rattle.rv_table.specs.Spans.{IsSpans}
use Rattle.rv_table.proofs.Shared.{plain_row}
use Rattle.rv_table.proofs.spans.Spans.open_of.Goals as goal

pub returns-then-is_empty : goal.returns-then-is_empty
returns-then-is_empty c = λ list first few is ours.
    let none : length c.self.inside.ends.items ≡ 0 = search (rules, tests) in
    let inside : IsSpans list (record { ends = c.self.inside.ends.items; rows = c.self.inside.rows.items }) = subst (IsSpans list) (sym c.self.view_is) is in
    plain_row list first c.args.tick c.self.inside.ends.items c.args.ours.now none inside.ends ours

pub returns-else-is_empty : goal.returns-else-is_empty
returns-else-is_empty c = λ list first few is ours.
    c.shared.ensures list first (is_open_at c.args.tick) few ours (c.row.ensures list is)
