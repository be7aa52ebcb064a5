use Rattle.std.proofs.lemmas.Result.{on_ok_weaker}
use Rattle.std.specs.Prelude.{string_bytes}
use Rattle.rv_export.specs.Exports.{dropped_fields, rule_fields}
use Rattle.rv_export.proofs.Appending.{two_put}
use Rattle.rv_export.proofs.facts.put_refusal.Goals as goal

pub returns : goal.returns
returns c =
    on_ok_weaker c.put_dropped.result
    (λ put h keeps. two_put (string_bytes c.args.text.now) (string_bytes c.put_rule.new.text) (string_bytes c.put_dropped.new.text) (rule_fields c.args.rule) (dropped_fields h c.args.actor c.args.request.now c.args.number)
    c.in_ok-put_rule.ensures (put h keeps)) c.put_dropped.ensures
