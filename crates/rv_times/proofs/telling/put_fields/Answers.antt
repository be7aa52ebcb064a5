use Rattle.std.proofs.Common.{[], ◌∷◌, rules}
use Rattle.std.specs.Prelude.{option_map, string_bytes}
use Rattle.std.proofs.lemmas.Result.{on_ok_weaker}
use Rattle.rv_times.specs.Telling.{field_of}
use Rattle.rv_times.proofs.Cutting.{four_put}
use Rattle.rv_times.proofs.telling.put_fields.Goals as goal

pub returns : goal.returns
returns c =
    on_ok_weaker c.push_str-3.result
    (λ put. four_put (string_bytes c.args.text.now) _ _ _ _ c.args.head.now (field_of (option_map (λ w. w.now) c.args.time)) (44 ∷ []) c.args.fields.now c.in_ok-push_str.ensures.bytes c.in_ok-put_field.ensures c.in_ok-push_str-2.ensures.bytes put)
    (search rules)
