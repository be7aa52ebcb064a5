use Rattle.std.proofs.Common.{ℕ, ap, subst, ◌∙◌}
use Rattle.rv_exec.specs.Asking.{Along}
use Rattle.rv_exec.specs.Bodies.{bodies_view, task_of}
use Rattle.rv_exec.specs.Tasks.{task_run}
use Rattle.rv_meant.proofs.NeverSettling.{tasks_never_settle}
use Rattle.rv_port.specs.declared.ended.Course.{Course}
use Rattle.rv_port.specs.Endings.{RunsCourse, own_ending}
use Rattle.rv_port.proofs.asker.Asker.run_text.Goals as goal

pub returns-clause-runs : goal.returns-clause-runs
returns-clause-runs g c =
    let ran = c.run_text-exit.ensures in
    let along = subst (λ (n : ℕ). Along (task_run (bodies_view c.args.ready.now.bodies) n c.args.budget) ran.trace c.run_text-exit.result.0) c.actor-actor.ensures ran.along in (
      ran.trace,
      along,
      ran.outside.0 (tasks_never_settle (bodies_view c.args.ready.now.bodies) c.args.self.now.pass.actor c.args.budget ran.trace c.run_text-exit.result.0 along),
      (
        c.run_text-exit.new.outward.course,
        subst (λ (z : Course). RunsCourse z c.args.self.now.pass ran.trace c.run_text-exit.new.outward.course c.run_text-exit.new.outward.pass) c.fresh-self.ensures ran.outside.2,
        c.ending_by-ending.ensures ∙ ap (λ (n : ℕ). own_ending (task_of (bodies_view c.args.ready.now.bodies) n) c.run_text-exit.result.0 c.args.budget c.run_text-exit.new.outward.course) c.actor-actor.ensures,
      ),
    )
