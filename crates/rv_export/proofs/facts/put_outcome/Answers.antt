use Rattle.std.proofs.Common.{ℕ, List, ◌++◌, Option, ap, ◌∙◌}
use Rattle.std.proofs.lemmas.Result.{on_ok_weaker}
use Rattle.std.specs.Prelude.{string_bytes}
use Rattle.rv_shape.specs.Shape.{Shape}
use Rattle.rv_export.specs.Exports.{answered_fields, next_fields, refused_fields}
use Rattle.rv_export.proofs.Appending.{three_put}
use Rattle.rv_export.proofs.facts.put_outcome.Goals as goal

pub returns : goal.returns
returns c =
    let h = c.args.host.now in
    let old = string_bytes c.args.text.now in
    let refused = refused_fields h c.args.actor c.args.request.now c.args.word in
    on_ok_weaker c.put_answered.result
    (λ put keeps number_is. three_put old (string_bytes c.put_next.new.text) (string_bytes c.put_refused.new.text) (string_bytes c.put_answered.new.text) (next_fields c.catalogue.result.now c.named-named.result) refused (answered_fields h c.args.it)
    c.in_ok-put_next.ensures (c.in_ok-put_refused.ensures h keeps) (put number_is)
    ∙ ap (λ (ss : List Shape). old ++ (next_fields ss c.named-named.result ++ (refused ++ answered_fields h c.args.it))) c.catalogue.ensures
    ∙ ap (λ (o : Option ℕ). old ++ (next_fields h.shapes o ++ (refused ++ answered_fields h c.args.it))) c.named-named.ensures)
    c.put_answered.ensures
