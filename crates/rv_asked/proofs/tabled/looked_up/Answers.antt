use Rattle.std.proofs.Common.{List, Option, Some, ℕ, sym, ap, ◌∙◌}
use Rattle.rv_history.specs.History.{force}
use Rattle.rv_history.specs.Subject.{subject}
use Rattle.rv_shape.specs.Catalogue.{target}
use Rattle.rv_table.specs.Tables.{decided_at}
use Rattle.rv_asked.proofs.tabled.looked_up.Goals as goal

pub returns-in-Some : goal.returns-in-Some
returns-in-Some c = λ is keeps.
    let h = c.args.host.now in
    let called = target h.shapes c.args.call.now.object c.args.call.now.operation in
    c.look.ensures.line (force h) h.shapes is
    ∙ ap (λ (name : Option (List ℕ)). decided_at (force h) name called c.clock-tick.result) (c.in-Some.ensures h c.catalogue.ensures keeps)
    ∙ ap (λ (tick : ℕ). decided_at (force h) (Some (subject h c.args.call.now.actor)) called tick) c.clock-tick.ensures

pub returns-in-None : goal.returns-in-None
returns-in-None c = λ is keeps.
    let h = c.args.host.now in
    let called = target h.shapes c.args.call.now.object c.args.call.now.operation in
    c.look_nameless.ensures.line (force h) h.shapes is
    ∙ ap (λ (name : List ℕ). decided_at (force h) (Some name) called c.clock-tick.result) (sym (c.in-None.ensures h c.catalogue.ensures keeps))
    ∙ ap (λ (tick : ℕ). decided_at (force h) (Some (subject h c.args.call.now.actor)) called tick) c.clock-tick.ensures
