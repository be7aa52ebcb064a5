use Rattle.std.proofs.Common.{◌≡◌, ◌∙◌, Option, Some, refl, sym, ap, subst, inl}
use Rattle.rv_code.specs.Bodies.{UnitBodies}
use Rattle.rv_exec.specs.Bodies.{bodies_view}
use Rattle.rv_runs.specs.declared.ready.Ready.{Ready}
use Rattle.rv_behind.specs.Acting.{lent_view}
use Rattle.rv_port.specs.Bodies.{marked}
use Rattle.rv_port.specs.Endings.{LentGoes}
use Rattle.rv_port.specs.Texts.{TextRuns}
use Rattle.rv_port.proofs.asker.Asker.run_lent.Goals as goal

pub returns-in-Some-taken : goal.returns-in-Some-taken
returns-in-Some-taken g c =
    let v = c.args.self.now in
    let t = c.run_text.ensures.runs in
    let bodies : lent_view c.args.lent.now ≡ Some (bodies_view c.deref-ready.result.now.bodies) = ap lent_view c.in-Some.is ∙ ap (λ (r : Ready). Some (bodies_view r.bodies)) (sym c.deref-ready.ensures) in
    record {
      had = c.args.lent.now;
      had_is = inl refl;
      trace = t.0;
      runs = subst (λ (b : Option UnitBodies). TextRuns b v.pass.actor c.args.budget t.0 c.run_text.result.0) (sym bodies) t.1;
      went = t.2;
      goes = subst (λ (b : Option UnitBodies). LentGoes b v.pass.actor c.args.budget c.run_text.result.0 v.pass t.0 c.run_text.new.self.pass c.run_text.result.1) (sym bodies) t.3;
      marked_is = c.run_text.ensures.mark ∙ sym (ap (λ (b : Option UnitBodies). marked v.is_refused b) bodies);
    }
