use Rattle.std.proofs.Common.{◌++◌, ◌∷◌, [], codes}
use Rattle.std.proofs.lemmas.Result.{on_ok_weaker}
use Rattle.std.specs.Prelude.{string_bytes}
use Rattle.rv_shape.specs.Catalogue.{dotted}
use Rattle.rv_grants.proofs.Appending.{four_put}
use Rattle.rv_grants.proofs.put_json.Goals as goal

pub returns : goal.returns
returns c =
    on_ok_weaker c.put_decided.result
    (λ put. four_put (string_bytes c.args.text.now) (string_bytes c.put_caller.new.text) (string_bytes c.put_object.new.text) (string_bytes c.put_operation.new.text) (string_bytes c.put_decided.new.text)
    (codes "{\"caller\":\"" ++ c.args.asking.now.caller) (codes "\",\"object\":\"" ++ dotted c.args.asking.now.unit c.args.asking.now.object) (codes "\",\"operation\":\"" ++ c.args.asking.now.operation)
    (codes "\",\"from\":" ++ (c.args.span.now ++ (codes "," ++ (c.args.decision.now ++ (codes "}" ++ 10 ∷ [])))))
    c.in_ok-put_caller.ensures c.in_ok-put_object.ensures c.in_ok-put_operation.ensures put) c.put_decided.ensures
