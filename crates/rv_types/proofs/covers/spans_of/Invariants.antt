use Rattle.std.proofs.Common.{◌≡◌, drop, []}
use Rattle.rv_code.specs.StatementView.{alternatives_view}
use Rattle.rv_types.specs.Spans.{all_spans}
use Rattle.rv_types.proofs.covers.spans_of.Given as goal

abbrev pub invariant-loop-alternative : goal.invariant-loop-alternative
invariant-loop-alternative l = all_spans (alternatives_view (drop l.alternative-index l.list.items)) l.spans.items ≡ all_spans (alternatives_view l.list.items) []
