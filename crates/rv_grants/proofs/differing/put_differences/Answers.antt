use Rattle.std.proofs.Common.{◌≡◌, ◌∷◌, rules}
use Rattle.std.proofs.lemmas.Result.{on_ok_weaker}
use Rattle.std.specs.Prelude.{string_bytes}
use Rattle.rv_grants.specs.Differences.{edges_of}
use Rattle.rv_grants.proofs.Appending.{differences_put}
use Rattle.rv_grants.proofs.differing.put_differences.Goals as goal

pub returns : goal.returns
returns c =
    let ticks_is : c.as_slice-2.result.now ≡ 0 ∷ edges_of c.args.lists.one.now c.args.lists.other.now = search rules in
    on_ok_weaker c.put_from.result
    (λ put. differences_put c.args.lists.one.now c.args.lists.other.now c.args.asking.now c.as_slice-2.result.now (string_bytes c.args.text.now) (string_bytes c.put_from.new.text)
    ticks_is put) c.put_from.ensures
