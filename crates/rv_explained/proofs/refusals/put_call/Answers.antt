use Rattle.std.proofs.Common.{List, ◌++◌, Option, ap, ◌∙◌}
use Rattle.std.proofs.lemmas.Result.{on_ok_weaker}
use Rattle.std.specs.Prelude.{string_bytes}
use Rattle.rv_event.specs.declared.entry.Body.{Body}
use Rattle.rv_shape.specs.Shape.{Shape}
use Rattle.rv_explained.specs.Explanations.{call_of, decision_line}
use Rattle.rv_explained.proofs.refusals.put_call.Goals as goal

pub returns : goal.returns
returns c =
    let h = c.args.host.now in
    on_ok_weaker c.put_deciding.result
    (λ put keeps. put keeps
    ∙ ap (λ (o : Option Body). string_bytes c.args.text.now ++ decision_line h o) (c.call_of-call.ensures ∙ ap (λ (ss : List Shape). call_of ss c.args.actor c.args.request.now) c.catalogue.ensures))
    c.put_deciding.ensures
