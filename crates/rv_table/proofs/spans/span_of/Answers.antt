use Rattle.std.proofs.Common.{leb, leb-true, leb-false, arith, rules}
use Rattle.std.proofs.lemmas.List.Sorted.{IsPartitionPoint-from_clause, IsPartitionedBy-leb}
use Rattle.rv_table.proofs.spans.span_of.Goals as goal

pub returns : goal.returns
returns c =
    let parted = IsPartitionedBy-leb (λ end. end) _ c.args.tick c.requires in
    let point = IsPartitionPoint-from_clause (λ end. leb end c.args.tick) _ _ c.partition_point.ensures.partitioned parted (λ a r q k. search rules) in
    record {
      few = c.partition_point.ensures.bound;
      before = λ j less. leb-true _ _ (point.0 j 0 (omega arith) less);
      behind = λ j past there. leb-false _ _ (point.1 j 0 past there);
    }
