use Rattle.std.proofs.Common.{rules, ◌≡◌, ◌∙◌, ap, length, replicate}
use Rattle.std.specs.Prelude.{nat_lt}
use Rattle.std.specs.List.{list_all}
use Rattle.rv_code.proofs.Listed.{within_first}
use Rattle.rv_code.proofs.body.UnitBodies.empty.Goals as goal

pub invariant_of-result : goal.invariant_of-result
invariant_of-result c =
    let zeros : c.in_ok-objects.objects.items ≡ replicate c.args.objects 0 = search rules in
    record {
      listed = ap (λ objects. list_all (λ list. nat_lt list (length c.in_ok-lists.lists.items)) objects) zeros
          ∙ within_first c.args.objects c.in_ok-lists.lists.items c.in_ok-lists.ensures.count;
    }
