use Rattle.std.proofs.Common.{◌∙◌, ap, List, Option, Some, ℕ}
use Rattle.rv_history.specs.History.{last_list}
use Rattle.rv_shape.specs.Catalogue.{target}
use Rattle.rv_table.specs.Tables.{decided_at, granted_at}
use Rattle.rv_history.specs.Subject.{subject}
use Rattle.rv_host.specs.Seen.{history_of}
use Rattle.rv_host.proofs.rules.grant.looked_up.Goals as goal

pub returns-in-Some-clause-granted : goal.returns-in-Some-clause-granted
returns-in-Some-clause-granted c =
    let list = last_list c.args.seen.now.lists.now in
    let shapes = c.args.seen.now.catalogue.now in
    let called = target shapes c.args.object c.args.operation in
    c.look.ensures.granted list shapes c.requires.tabled
    ∙ ap (λ (name : Option (List ℕ)). granted_at list name called c.ticks-tick.result) c.in-Some.ensures
    ∙ ap (λ (tick : ℕ). granted_at list (Some (subject (history_of c.args.seen.now) c.args.actor)) called tick) c.ticks-tick.ensures.value

pub returns-in-Some-clause-line : goal.returns-in-Some-clause-line
returns-in-Some-clause-line c =
    let list = last_list c.args.seen.now.lists.now in
    let shapes = c.args.seen.now.catalogue.now in
    let called = target shapes c.args.object c.args.operation in
    c.look.ensures.line list shapes c.requires.tabled
    ∙ ap (λ (name : Option (List ℕ)). decided_at list name called c.ticks-tick.result) c.in-Some.ensures
    ∙ ap (λ (tick : ℕ). decided_at list (Some (subject (history_of c.args.seen.now) c.args.actor)) called tick) c.ticks-tick.ensures.value
