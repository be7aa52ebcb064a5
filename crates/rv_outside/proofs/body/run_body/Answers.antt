use Rattle.rv_exec.specs.Bodies.{bodies_view}
use Rattle.rv_flat.specs.FlatUnits.{flat_view}
use Rattle.rv_runs.proofs.Alongs.{body_along}
use Rattle.rv_outside.proofs.body.run_body.Goals as goal

pub returns : goal.returns
returns g c =
    let ready = c.args.ready.now in
    let begun = c.args.begun.now in
    let ran = c.run_body-ended.ensures in
    let ended = c.run_body-ended.result.0 in
    record {
      left = ended.scalars;
      ran = record {
        trace = ran.trace;
        along = body_along (flat_view ready.table.unit) (bodies_view ready.bodies) c.args.held begun.object begun.operation c.args.args.now c.args.scalars.now ran.trace (ended.exit, ended.scalars) ready.tabled ran.along;
        outside = ran.outside;
      };
      ends = c.put_end.ensures;
    }
