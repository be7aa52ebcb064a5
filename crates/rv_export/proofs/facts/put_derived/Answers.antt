use Rattle.std.proofs.Common.{List, sym, ap, subst, ◌∙◌}
use Rattle.std.proofs.lemmas.Result.{on_ok_weaker}
use Rattle.std.specs.Prelude.{string_bytes}
use Rattle.rv_shape.specs.Shape.{Shape}
use Rattle.rv_event.specs.declared.entry.Entry.TheVariants.{Asked}
use Rattle.rv_asked.specs.Asked.{asked_at}
use Rattle.rv_asked.specs.Holding.{Keeps}
use Rattle.rv_asked.specs.declared.holding.Holding.{Holding}
use Rattle.rv_export.specs.Kept.{KeepsDrops, KeepsLeft}
use Rattle.rv_export.specs.declared.drops.Drops.{Drops}
use Rattle.rv_export.specs.declared.left.Left.{Left}
use Rattle.rv_export.proofs.Appending.{derived_put}
use Rattle.rv_export.proofs.facts.put_derived.Goals as goal

pub returns : goal.returns
returns c =
    let h = c.args.host.now in
    on_ok_weaker c.put_outcome.result
    (λ put keeps said number_is ended_is.
    let holding : Keeps c.holding-holding.result.now h.shapes h.past = subst (λ (x : Holding). Keeps x h.shapes h.past) (sym c.holding-holding.ensures) keeps.holding in
    let left : KeepsLeft c.left.result.now h.past = subst (λ (x : Left). KeepsLeft x h.past) (sym c.left.ensures) keeps.left in
    let drops : KeepsDrops c.drops.result.now h.past h.lists = subst (λ (x : Drops). KeepsDrops x h.past h.lists) (sym c.drops.ensures) keeps.drops in
    derived_put h c.args.actor c.args.request.now c.args.word (string_bytes c.args.text.now) (string_bytes c.put_called.new.text) (string_bytes c.put_outcome.new.text) c.asked_at-asked.result c.answered-it.result c.about.result
    (c.in_ok-put_called.ensures said holding) (put drops number_is) c.about.ensures
    (c.asked_at-asked.ensures h.past (subst (λ (ss : List Shape). Keeps c.holding-holding.result.now ss h.past) (sym c.catalogue.ensures) holding)
    ∙ ap (λ (ss : List Shape). asked_at ss h.past (Asked c.args.actor c.args.request.now c.args.word)) c.catalogue.ensures)
    (c.answered-it.ensures h c.args.word left ended_is))
    c.put_outcome.ensures
