use Rattle.rv_exec.specs.Blocks.{operation_run_at}
use Rattle.rv_flat.specs.FlatUnits.{flat_view}
use Rattle.rv_machine.specs.Machines.{stands}
use Rattle.rv_runs.proofs.Exits.{exits, exits_so}
use Rattle.rv_runs.proofs.run.run_body.Goals as goal

pub returns : goal.returns
returns g c =
    let ran = c.run-how.ensures in
    record {
      trace = ran.1.trace;
      along = exits_so (operation_run_at (flat_view c.args.table.now.unit) c.args.held c.args.object c.args.operation c.args.values c.args.scalars) (stands c.args.table.now.unit c.start_body-machine.result)
          ran.1.trace ran.0 c.run-how.result c.in-Exited.exit c.in-Exited.scalars c.start_body-machine.ensures.stands ran.1.along ran.2 c.in-Exited.is;
      outside = ran.1.outside;
    }

pub unreachable-requires : goal.unreachable-requires
unreachable-requires g c =
    let ran = c.run-how.ensures in
    let out = exits (operation_run_at (flat_view c.args.table.now.unit) c.args.held c.args.object c.args.operation c.args.values c.args.scalars) (stands c.args.table.now.unit c.start_body-machine.result)
    ran.1.trace ran.0 c.run-how.result c.start_body-machine.ensures.stands ran.1.along ran.2 in
    c.in_default.not-Exited out.0.0 out.0.1 out.2
