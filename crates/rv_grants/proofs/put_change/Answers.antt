use Rattle.std.proofs.lemmas.Result.{on_ok_weaker}
use Rattle.std.specs.Prelude.{option_copied, string_bytes}
use Rattle.rv_grants.proofs.Appending.{change_put}
use Rattle.rv_grants.proofs.put_change.Goals as goal

pub returns : goal.returns
returns c =
    on_ok_weaker c.put_told.result
    (λ put. change_put c.args.list.now c.args.asking.now c.args.last c.args.tick c.args.number (option_copied c.line.result) (string_bytes c.args.text.now) (string_bytes c.put_told.new.text) c.is_again.result
    c.is_again.ensures c.if-is_again.false c.line.ensures put) c.put_told.ensures
