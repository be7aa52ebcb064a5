use Rattle.std.proofs.Common.{ℕ, refl, subst}
use Rattle.rv_exec.specs.Asking.{Along}
use Rattle.rv_exec.specs.Blocks.{operation_run_at}
use Rattle.rv_exec.specs.Bodies.{bodies_view}
use Rattle.rv_meant.proofs.NeverSettling.{bodies_never_settle}
use Rattle.rv_outside.specs.Ends.{given_by}
use Rattle.rv_port.specs.declared.body.Ended.{Ended}
use Rattle.rv_port.proofs.body.run_one.Goals as goal

pub returns-clause-runs : goal.returns-clause-runs
returns-clause-runs g c =
    let bodies = bodies_view c.args.ready.now.bodies in
    let exit = c.run_body-exit.result.0 in
    let ended : Ended = record { scalars = given_by c.args.begun.now c.run_body-exit.ensures.left; exit = exit } in
    let along = subst (λ (n : ℕ). Along (operation_run_at bodies n c.args.begun.now.object c.args.begun.now.operation c.args.args.now c.args.scalars.now) c.run_body-exit.ensures.ran.trace (exit, c.run_body-exit.ensures.left))
    c.args.asker.now.counts c.run_body-exit.ensures.ran.along in (
      c.run_body-exit.ensures.ran.trace,
      (ended, (c.run_body-exit.ensures.left, along, refl), c.run_body-exit.ensures.ends, refl),
      c.run_body-exit.ensures.ran.outside.0 (bodies_never_settle bodies _ _ _ _ _ _ _ _ c.run_body-exit.ensures.ran.along),
    )
