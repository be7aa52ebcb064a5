use Rattle.std.proofs.lemmas.Result.{on_ok_weaker}
use Rattle.std.specs.Prelude.{string_bytes}
use Rattle.rv_grants.proofs.Appending.{difference_put}
use Rattle.rv_grants.proofs.differing.put_difference.Goals as goal

pub returns : goal.returns
returns c =
    on_ok_weaker c.put_told.result
    (λ put. difference_put c.args.lists.one.now c.args.lists.other.now c.args.asking.now c.args.last c.args.tick c.args.ticks.now c.deciding-these.result c.end_among-end.result (string_bytes c.args.text.now) (string_bytes c.put_told.new.text) c.decided_before.result c.differ.result
    c.deciding-these.ensures c.decided_before.ensures c.if-decided_before.false c.differ.ensures c.if-not-differ.false c.end_among-end.ensures put) c.put_told.ensures
