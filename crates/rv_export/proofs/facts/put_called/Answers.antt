use Rattle.std.proofs.lemmas.Result.{on_ok_weaker}
use Rattle.std.specs.Prelude.{string_bytes}
use Rattle.rv_export.specs.Exports.{decided_fields, object_fields}
use Rattle.rv_export.proofs.Appending.{two_put}
use Rattle.rv_export.proofs.facts.put_called.Goals as goal

pub returns : goal.returns
returns c =
    let h = c.args.host.now in
    on_ok_weaker c.put_decided.result
    (λ put said keeps. two_put (string_bytes c.args.text.now) (string_bytes c.put_object.new.text) (string_bytes c.put_decided.new.text) (object_fields h.shapes c.args.call) (decided_fields h c.args.asked)
    (c.in_ok-put_object.ensures h c.catalogue.ensures said) (put said keeps))
    c.put_decided.ensures
