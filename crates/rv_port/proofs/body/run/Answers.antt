use Rattle.std.proofs.Common.{◌≡◌, ◌∙◌, Option, Some, refl, sym, ap, subst, inl}
use Rattle.rv_code.specs.Bodies.{UnitBodies}
use Rattle.rv_exec.specs.Bodies.{bodies_view}
use Rattle.rv_runs.specs.declared.ready.Ready.{Ready}
use Rattle.rv_behind.specs.Acting.{lent_view}
use Rattle.rv_port.specs.Bodies.{RunsTo, marked}
use Rattle.rv_port.specs.Held.{held_by}
use Rattle.rv_port.proofs.body.run.Goals as goal

pub returns-in-Some-taken : goal.returns-in-Some-taken
returns-in-Some-taken g c =
    let v = c.args.asker.now in
    let one = c.run_one.ensures in
    let bodies : lent_view c.args.lent.now ≡ Some (bodies_view c.deref-ready.result.now.bodies) = ap lent_view c.in-Some.is ∙ ap (λ (r : Ready). Some (bodies_view r.bodies)) (sym c.deref-ready.ensures) in
    record {
      had = c.args.lent.now;
      had_is = inl refl;
      trace = one.runs.0;
      runs = subst (λ (b : Option UnitBodies). RunsTo b (held_by v.pass) c.args.begun.now c.args.scalars.now c.args.args.now one.runs.0 c.run_one.new.request c.run_one.result) (sym bodies) one.runs.1;
      went = one.runs.2;
      marked_is = one.mark ∙ sym (ap (λ (b : Option UnitBodies). marked v.is_refused b) bodies);
    }
