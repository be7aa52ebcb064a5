use Rattle.std.proofs.Common.{ℕ, List, ◌++◌, ap, ◌∙◌}
use Rattle.std.proofs.lemmas.Result.{on_ok_weaker}
use Rattle.std.specs.Prelude.{string_bytes}
use Rattle.rv_shape.specs.Shape.{Shape}
use Rattle.rv_history.specs.Rules.{aim}
use Rattle.rv_explained.specs.Explanations.{against}
use Rattle.rv_explained.proofs.refusals.put_against_it.Goals as goal

pub returns : goal.returns
returns c =
    let h = c.args.host.now in
    on_ok_weaker c.put_against.result
    (λ put keeps. put keeps
    ∙ ap (λ (o : ℕ). string_bytes c.args.text.now ++ against h c.args.actor o c.args.rule) (c.aimed-object.ensures ∙ ap (λ (ss : List Shape). (aim ss c.args.actor c.args.request.now).0) c.catalogue.ensures))
    c.put_against.ensures
