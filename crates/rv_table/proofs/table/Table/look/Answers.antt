use Rattle.std.proofs.Common.{◌∙◌, ap, sym, ℕ, List, Option}
use Rattle.rv_shape.specs.Catalogue.{target}
use Rattle.rv_table.proofs.Looks.{caller_of}
use Rattle.rv_table.specs.Tables.{callers, decided_at, granted_at}
use Rattle.rv_table.proofs.table.Table.look.Goals as goal

pub returns-clause-line : goal.returns-clause-line
returns-clause-line c = λ list shapes is.
    let by = caller_of list (callers shapes) c.args.self.now.callers c.args.unit c.in-Some.ours.now is.callers (sym c.in-Some.ensures) in
    c.look_in.ensures.line list shapes by.0 is by.2
    ∙ ap (λ (name : Option (List ℕ)). decided_at list name (target shapes c.args.object c.args.operation) c.args.tick) (sym by.1)

pub returns-clause-granted : goal.returns-clause-granted
returns-clause-granted c = λ list shapes is.
    let by = caller_of list (callers shapes) c.args.self.now.callers c.args.unit c.in-Some.ours.now is.callers (sym c.in-Some.ensures) in
    c.look_in.ensures.granted list shapes by.0 is by.2
    ∙ ap (λ (name : Option (List ℕ)). granted_at list name (target shapes c.args.object c.args.operation) c.args.tick) (sym by.1)
