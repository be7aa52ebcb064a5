use Rattle.std.proofs.Common.{◌∙◌}
use Rattle.std.proofs.lemmas.Result.{on_ok_weaker}
use Rattle.std.specs.Prelude.{string_bytes}
use Rattle.rv_grants.specs.Differences.{decisions_fields, span_fields}
use Rattle.rv_grants.proofs.Appending.{row_put}
use Rattle.rv_grants.proofs.differing.put_fields.Goals as goal

pub returns : goal.returns
returns c =
    on_ok_weaker c.put_json.result
    (λ put. row_put c.args.asking.now (string_bytes c.args.text.now) (string_bytes c.put_json.new.text) c.as_str.result.now c.as_str-2.result.now (span_fields c.args.tick c.args.end) (decisions_fields c.args.lists.one.now c.args.lists.other.now c.args.these)
    (c.as_str.ensures.value ∙ c.in_ok-span.ensures) (c.as_str-2.ensures.value ∙ c.in_ok-decisions.ensures) put) c.put_json.ensures
