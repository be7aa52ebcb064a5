use Rattle.std.proofs.Common.{[], sym, subst}
use Rattle.rv_flat.specs.FlatUnits.{flat_view}
use Rattle.rv_go.proofs.Behind.{task_begins, line_begins}
use Rattle.rv_go.specs.declared.run.Text.{Text}
use Rattle.rv_go.specs.Runs.{asked_by, IsBehind}
use Rattle.rv_go.proofs.run.Text.begin.Goals as goal

pub returns-in-Task-clause-begins : goal.returns-in-Task-clause-begins
returns-in-Task-clause-begins c =
    subst (λ (t : Text). IsBehind c.args.table.now (asked_by (flat_view c.args.table.now) c.args.budget t) [] c.start_task.result) (sym c.in-Task.is)
    (task_begins c.args.table.now c.start_task.result c.in-Task.actor c.args.budget c.start_task.ensures.stands)

pub returns-in-Handler-clause-begins : goal.returns-in-Handler-clause-begins
returns-in-Handler-clause-begins c =
    subst (λ (t : Text). IsBehind c.args.table.now (asked_by (flat_view c.args.table.now) c.args.budget t) [] c.start_line.result) (sym c.in-Handler.is)
    (line_begins c.args.table.now c.start_line.result c.in-Handler.object c.in-Handler.operation c.args.budget c.start_line.ensures.stands)
