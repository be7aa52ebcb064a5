use Rattle.std.proofs.Common.{ap, subst, ◌∙◌}
use Rattle.rv_history.specs.History.{History}
use Rattle.rv_history.specs.Due.{out}
use Rattle.rv_history.specs.Legal.{Legal, after}
use Rattle.std.specs.Arc.{arc_value}
use Rattle.rv_behind.specs.Acting.{begun_by}
use Rattle.rv_behind.proofs.Doing.{stepped, step_shapes, brings_step}
use Rattle.rv_behind.proofs.behind.Behind.step.Goals as goal

pub returns-clause-does : goal.returns-clause-does
returns-clause-does c = let s = c.args.self.now in let h = s.host.value in let e = c.deref_mut-host.ensures.value in
    let history = c.put_answer.ensures.history ∙ ap (λ (z : History). after z c.args.actor c.args.letter.now.request c.put_answer.new.answer) e in
    stepped h _ (arc_value s.bodies).bodies c.args.actor c.args.letter.now.request _ _ _ (subst Legal e c.replays.ensures.legal) s.brought
    (c.put_answer.ensures.answer ∙ ap (λ (z : History). out z c.args.actor c.args.letter.now.request) e) history
    (c.begun_by-letter.ensures ∙ ap (λ z. begun_by z c.args.actor c.args.letter.now.request c.put_answer.new.answer) c.catalogue.ensures)
    (step_shapes h _ c.args.actor c.args.letter.now.request _ history) c.lend.ensures

pub invariant_of-self : goal.invariant_of-self
invariant_of-self c = let s = c.args.self.now in let e = c.deref_mut-host.ensures.value in
    record {
      brought = brings_step s.host.value _ (arc_value s.bodies).bodies c.args.actor c.args.letter.now.request _ s.brought
          (c.put_answer.ensures.history ∙ ap (λ (z : History). after z c.args.actor c.args.letter.now.request c.put_answer.new.answer) e);
    }
