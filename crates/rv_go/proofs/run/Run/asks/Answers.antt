use Rattle.rv_flat.specs.FlatUnits.{flat_view}
use Rattle.rv_go.specs.Runs.{asked_by}
use Rattle.rv_go.proofs.Following.{moved, asks_on}
use Rattle.rv_go.proofs.run.Run.asks.Goals as goal

pub returns-clause-run : goal.returns-clause-run
returns-clause-run c = λ budget before is.
    moved c.args.table.now budget before c.args.answers.now c.catch_up.new.self c.next_of.new.machine c.next_of.ensures.fits (c.next_of.ensures.behind (asked_by (flat_view c.args.table.now) budget c.catch_up.new.self.text) _) (c.catch_up.ensures.run budget before is)

pub returns-clause-asked : goal.returns-clause-asked
returns-clause-asked c = λ budget before is.
    asks_on c.args.table.now budget before c.args.answers.now c.catch_up.new.self c.args.self.now.text c.next_of.result c.catch_up.ensures.text c.catch_up.ensures.all (c.next_of.ensures.asked (asked_by (flat_view c.args.table.now) budget c.catch_up.new.self.text)) (c.catch_up.ensures.run budget before is)
