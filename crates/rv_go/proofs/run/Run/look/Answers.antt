use Rattle.rv_flat.specs.FlatUnits.{flat_view}
use Rattle.rv_go.specs.Runs.{asked_by}
use Rattle.rv_go.proofs.Following.{looks_on}
use Rattle.rv_go.proofs.run.Run.look.Goals as goal

pub returns-clause-run : goal.returns-clause-run
returns-clause-run c = λ budget before kept lt at is.
    looks_on c.args.table.now budget before kept c.args.self.now c.args.answer.now c.settle.new.machine lt at c.settle.ensures.fits (c.settle.ensures.behind (asked_by (flat_view c.args.table.now) budget c.args.self.now.text)) is
