use Rattle.std.proofs.Common.{List, ◌++◌, Option, ap, sym, ◌∙◌}
use Rattle.std.proofs.lemmas.Result.{on_ok_weaker}
use Rattle.std.specs.Prelude.{string_bytes}
use Rattle.rv_shape.specs.Shape.{Shape}
use Rattle.rv_event.specs.declared.entry.Body.{Body}
use Rattle.rv_event.specs.declared.entry.Rule.{Rule}
use Rattle.rv_explained.specs.Explanations.{call_of, letting, letting_line}
use Rattle.rv_explained.proofs.letting.put_letting.Goals as goal

pub returns-in-Grant : goal.returns-in-Grant
returns-in-Grant c =
    let h = c.args.host.now in
    on_ok_weaker c.put_letting_line.result
    (λ put keeps. put keeps
    ∙ ap (λ (o : Option Body). string_bytes c.args.text.now ++ letting_line h o) (c.call_of-call.ensures ∙ ap (λ (ss : List Shape). call_of ss c.args.actor c.args.request.now) c.catalogue.ensures)
    ∙ sym (ap (λ (r : Rule). string_bytes c.args.text.now ++ letting h c.args.actor c.args.request.now r) c.in-Grant.is))
    c.put_letting_line.ensures
