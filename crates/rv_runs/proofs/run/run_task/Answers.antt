use Rattle.rv_exec.specs.Tasks.{task_run}
use Rattle.rv_flat.specs.FlatUnits.{flat_view}
use Rattle.rv_machine.specs.Machines.{stands}
use Rattle.rv_runs.proofs.Exits.{quits, quits_so}
use Rattle.rv_runs.proofs.run.run_task.Goals as goal

pub returns : goal.returns
returns g c =
    let ran = c.run-how.ensures in
    record {
      trace = ran.1.trace;
      along = quits_so (task_run (flat_view c.args.table.now.unit) c.args.actor c.args.requests) (stands c.args.table.now.unit c.start_task-machine.result)
          ran.1.trace ran.0 c.run-how.result c.in-Quitted.exit c.start_task-machine.ensures.stands ran.1.along ran.2 c.in-Quitted.is;
      outside = ran.1.outside;
    }

pub unreachable-requires : goal.unreachable-requires
unreachable-requires g c =
    let ran = c.run-how.ensures in
    let out = quits (task_run (flat_view c.args.table.now.unit) c.args.actor c.args.requests) (stands c.args.table.now.unit c.start_task-machine.result)
    ran.1.trace ran.0 c.run-how.result c.start_task-machine.ensures.stands ran.1.along ran.2 in
    c.in_default.not-Quitted out.0 out.2
