use Rattle.rv_exec.specs.Bodies.{bodies_view}
use Rattle.rv_flat.specs.FlatUnits.{flat_view}
use Rattle.rv_runs.proofs.Alongs.{task_along}
use Rattle.rv_outside.proofs.text.run_text.Goals as goal

pub returns : goal.returns
returns g c =
    let ready = c.args.ready.now in
    let ran = c.run_task.ensures in
    record {
      trace = ran.trace;
      along = task_along (flat_view ready.table.unit) (bodies_view ready.bodies) c.args.actor c.args.budget ran.trace c.run_task.result.0 ready.tabled ran.along;
      outside = ran.outside;
    }
