use Rattle.std.proofs.Common.{◌<◌, ◌∷◌, ℕ, List, length, subst, sym, arith}
use Rattle.rv_table.specs.Spans.{IsOpenRow, IsSpan, IsSpans}
use Rattle.rv_table.proofs.Reached.{row_at, start, zip_at}
use Rattle.rv_table.proofs.spans.Spans.row.Goals as goal

pub returns : goal.returns
returns c = λ list is.
    let ends = c.self.inside.ends.items in
    let rows = c.self.inside.rows.items in
    let count = c.span_of.result in
    let row = c.index.result.now in
    let inside : IsSpans list (record { ends = ends; rows = rows }) = subst (IsSpans list) (sym c.self.view_is) is in
    let span : IsSpan ends c.args.tick count = subst (λ (es : List ℕ). IsSpan es c.args.tick count) c.deref.ensures.value c.span_of.ensures in
    let few : count < length (0 ∷ ends) = omega (arith, span.few) in
    let there : IsOpenRow list (start ends count) row = subst (λ (r : List ℕ). IsOpenRow list (start ends count) r) (sym c.index.ensures) (zip_at (IsOpenRow list) (0 ∷ ends) rows count 0 row inside.rows few) in
    row_at list ends row c.args.tick count c.self.invariant.0 span inside.ends there
