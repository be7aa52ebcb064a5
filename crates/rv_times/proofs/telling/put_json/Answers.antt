use Rattle.std.proofs.Common.{Some, None, arith, rules}
use Rattle.std.specs.Prelude.{string_bytes}
use Rattle.std.proofs.lemmas.Result.{on_ok_weaker}
use Rattle.std.proofs.lemmas.Str.Pattern.{split_once_first}
use Rattle.rv_times.proofs.Cutting.{json_cut, json_whole}
use Rattle.rv_times.proofs.telling.put_json.Goals as goal

pub returns-in-Some : goal.returns-in-Some
returns-in-Some c =
    let parts = split_once_first 44 c.args.line.now (Some (c.in-Some.head, c.in-Some.fields)) c.in-Some.ensures.cases (omega arith) in
    on_ok_weaker c.put_fields.result
    (λ put. json_cut c.args.times.now (string_bytes c.args.text.now) _ c.args.line.now c.in-Some.head.now c.in-Some.fields.now c.behind_colon.result.now _ parts.0 parts.1 parts.2 c.behind_colon.ensures c.time_of.ensures put)
    c.put_fields.ensures

pub returns-in-None : goal.returns-in-None
returns-in-None c =
    let none = split_once_first 44 c.args.line.now None c.in-None.ensures.cases (omega arith) in
    on_ok_weaker c.push_str.result (λ put. json_whole c.args.times.now (string_bytes c.args.text.now) _ c.args.line.now none put) (search rules)
