use Rattle.std.proofs.Common.{◌++◌, ap, ◌∙◌, codes}
use Rattle.std.proofs.lemmas.Result.{on_ok_weaker}
use Rattle.std.specs.Prelude.{string_bytes}
use Rattle.rv_shape.specs.Catalogue.{dotted}
use Rattle.rv_grants.specs.Grants.{Call}
use Rattle.rv_grants.proofs.Appending.{two_put}
use Rattle.rv_grants.proofs.put_object.Goals as goal

pub returns : goal.returns
returns c =
    on_ok_weaker c.put_dotted.result
    (λ put. two_put (string_bytes c.args.text.now) (string_bytes c.push_str.new.self) (string_bytes c.put_dotted.new.text) (codes "\",\"object\":\"") (dotted c.asking.inside.unit.now c.asking.inside.object.now)
    c.in_ok-push_str.ensures.bytes put
    ∙ ap (λ (call : Call). string_bytes c.args.text.now ++ (codes "\",\"object\":\"" ++ dotted call.unit call.object)) c.asking.view_is) c.put_dotted.ensures
