use Rattle.std.proofs.Common.{ℕ, List, ◌++◌, ap, ◌∙◌, sym, subst}
use Rattle.std.proofs.lemmas.Result.{on_ok_weaker}
use Rattle.std.specs.Prelude.{string_bytes}
use Rattle.rv_shape.specs.Catalogue.{Target, target}
use Rattle.rv_shape.specs.Shape.{Shape}
use Rattle.rv_asked.specs.Holding.{Keeps}
use Rattle.rv_asked.specs.declared.holding.Holding.{Holding}
use Rattle.rv_explained.specs.Explanations.{letting_text}
use Rattle.rv_explained.proofs.letting.put_line.Goals as goal

pub returns : goal.returns
returns c =
    let h = c.args.host.now in
    let call = c.args.call.now in
    let old = string_bytes c.args.text.now in
    on_ok_weaker c.put_words.result
    (λ put keeps.
    let kept : Keeps c.holding-holding.result.now h.shapes h.past = subst (λ (x : Holding). Keeps x h.shapes h.past) (sym c.holding-holding.ensures) keeps.holding in
    put
    ∙ ap (λ (t : Target). old ++ letting_text c.subject.result.now t) (c.callee-callee.ensures ∙ ap (λ (ss : List Shape). target ss call.object call.operation) c.catalogue-catalogue.ensures)
    ∙ ap (λ (s : List ℕ). old ++ letting_text s (target h.shapes call.object call.operation)) (c.subject.ensures h c.catalogue-catalogue.ensures kept))
    c.put_words.ensures
