use Rattle.std.proofs.Common.{◌≡◌, drop, Some}
use Rattle.rv_types.proofs.Chains.{is_chain}
use Rattle.rv_types.proofs.covers.in_order.Given as goal

abbrev pub invariant-loop-span : goal.invariant-loop-span
invariant-loop-span l = is_chain l.gaps l.high (Some l.next) (drop l.span-index l.spans.items) ≡ is_chain l.gaps l.high (Some l.low) l.spans.items
