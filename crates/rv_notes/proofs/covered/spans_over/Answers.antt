use Rattle.std.proofs.Common.{◌≡◌, ◌∙◌, ◌∷◌, [], ◌++◌, List, true, false, ap, sym, Some, rules}
use Rattle.rv_access.specs.Limits.{most_tick}
use Rattle.rv_access.specs.Windows.{IsWindow}
use Rattle.rv_notes.specs.Covered.{Span, is_held}
use Rattle.rv_notes.proofs.Spanning.{past_added, span_added, span_of, span_skipped}
use Rattle.rv_notes.proofs.covered.spans_over.Goals as goal

pub loop-wide-preserved-then-not-is_wider : goal.loop-wide-preserved-then-not-is_wider
loop-wide-preserved-then-not-is_wider c =
    let narrow : c.is_wider.result ≡ false = c.if-not-is_wider.true in (
      span_skipped c.args.lines.now c.args.line.now c.wide-item.result c.loop-wide.wide-index c.loop-wide.spans.items c.loop-wide-test.true c.wide-item.is
          (sym c.is_wider.ensures ∙ narrow) c.loop-wide.invariant.0,
      c.loop-wide.invariant.1,
    )

pub loop-wide-preserved : goal.loop-wide-preserved
loop-wide-preserved c =
    let wide = c.wide-item.result in
    let window = c.in-Some.window.now in
    let wider : c.is_wider.result ≡ true = c.if-not-is_wider.false in
    let has : wide.window ≡ Some window = search rules in
    let span : (c.first.result, c.end.result) ≡ span_of window = λ i. (c.first.ensures i, c.end.ensures i) in
    let items : c.push.new.self.items ≡ c.loop-wide.spans.items ++ span_of window ∷ [] =
    c.in_ok-push.ensures.items ∙ ap (λ (s : Span). c.loop-wide.spans.items ++ s ∷ []) span in
    let added = span_added c.args.lines.now c.args.line.now wide c.loop-wide.wide-index c.loop-wide.spans.items window c.loop-wide-test.true c.wide-item.is
    (sym c.is_wider.ensures ∙ wider) has c.loop-wide.invariant.0 in
    let is : IsWindow window = search rules in
    let past = past_added c.loop-wide.spans.items window is c.loop-wide.invariant.1 in
    (λ tick. added tick ∙ ap (λ (ss : List Span). is_held ss tick) (sym items), ap (λ (ss : List Span). is_held ss most_tick) items ∙ past)
