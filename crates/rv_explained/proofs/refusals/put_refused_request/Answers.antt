use Rattle.std.proofs.lemmas.Result.{on_ok_weaker}
use Rattle.std.specs.Prelude.{string_bytes}
use Rattle.rv_explained.specs.Explanations.{broken_text, letting}
use Rattle.rv_explained.proofs.Appending.{two_put}
use Rattle.rv_explained.proofs.refusals.put_refused_request.Goals as goal

pub returns : goal.returns
returns c =
    let h = c.args.host.now in
    on_ok_weaker c.put_letting.result
    (λ put keeps. two_put (string_bytes c.args.text.now) (string_bytes c.put_broken.new.text) (string_bytes c.put_letting.new.text) (broken_text h c.args.actor c.args.request.now c.args.rule) (letting h c.args.actor c.args.request.now c.args.rule)
    (c.in_ok-put_broken.ensures keeps) (put keeps)) c.put_letting.ensures
