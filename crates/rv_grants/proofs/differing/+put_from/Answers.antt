use Rattle.std.proofs.Common.{length, get_or, drop, take, ◌-◌, refl}
use Rattle.std.proofs.lemmas.List.{take_rest}
use Rattle.std.proofs.lemmas.Result.{on_ok_weaker}
use Rattle.std.specs.Prelude.{string_bytes}
use Rattle.rv_grants.proofs.Changing.{one_difference}
use Rattle.rv_grants.proofs.differing.+put_from.Goals as goal

pub returns : goal.returns
returns t c =
    let ticks = c.args.ticks.now in
    on_ok_weaker c.put_from.result
    (λ put. one_difference c.args.lists.one.now c.args.lists.other.now c.args.asking.now c.args.last ticks (take (length ticks - 1) (drop 1 ticks)) (get_or ticks 0 0) c.deciding-these.result (string_bytes c.args.text.now) (string_bytes c.put_difference.new.text) (string_bytes c.put_from.new.text)
    c.in-len1-up.len_at_least refl (take_rest ticks 1) c.deciding-these.ensures c.in_ok-put_difference.ensures put) c.put_from.ensures
