use Rattle.std.proofs.Common.{◌≡◌, drop}
use Rattle.rv_types.specs.Spans.{spans_onto}
use Rattle.rv_types.proofs.covers.push_spans.Given as goal

abbrev pub invariant-loop-one : goal.invariant-loop-one
invariant-loop-one l = spans_onto (drop l.one-index l.list.items) l.spans.items ≡ spans_onto l.list.items l.initial.spans.items
