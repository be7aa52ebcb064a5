use Rattle.std.proofs.lemmas.Result.{on_ok_weaker}
use Rattle.std.specs.Prelude.{string_bytes}
use Rattle.rv_history.specs.Rules.{aim}
use Rattle.rv_explained.specs.Explanations.{against, broken_rule}
use Rattle.rv_explained.proofs.Appending.{two_put}
use Rattle.rv_explained.proofs.refusals.put_broken.Goals as goal

pub returns : goal.returns
returns c =
    let h = c.args.host.now in
    on_ok_weaker c.put_against_it.result
    (λ put keeps. two_put (string_bytes c.args.text.now) (string_bytes c.put_rule.new.text) (string_bytes c.put_against_it.new.text) (broken_rule c.args.rule) (against h c.args.actor (aim h.shapes c.args.actor c.args.request.now).0 c.args.rule)
    c.in_ok-put_rule.ensures (put keeps)) c.put_against_it.ensures
