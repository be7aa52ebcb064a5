use Rattle.std.proofs.Common.{◌++◌, Option, ap, ◌∙◌, sym, subst}
use Rattle.std.proofs.lemmas.Result.{on_ok_weaker}
use Rattle.std.specs.Prelude.{string_bytes}
use Rattle.rv_event.specs.declared.entry.Body.{Body}
use Rattle.rv_asked.specs.Holding.{Keeps}
use Rattle.rv_asked.specs.declared.holding.Holding.{Holding}
use Rattle.rv_explained.specs.Explanations.{letting_line}
use Rattle.rv_explained.proofs.letting.put_letting_queued.Goals as goal

pub returns : goal.returns
returns c =
    let h = c.args.host.now in
    on_ok_weaker c.put_letting_line.result
    (λ put keeps. put keeps
    ∙ ap (λ (o : Option Body). string_bytes c.args.text.now ++ letting_line h o) (c.call-call.ensures h.shapes h.past
    (subst (λ (x : Holding). Keeps x h.shapes h.past) (sym c.holding.ensures) keeps.holding)))
    c.put_letting_line.ensures
