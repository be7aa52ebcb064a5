use Rattle.std.proofs.Common.{ap, subst, ◌∙◌}
use Rattle.rv_history.specs.History.{History}
use Rattle.rv_history.specs.Legal.{Legal}
use Rattle.rv_history.specs.Steps.{MayLackMemory, due_change, after_change}
use Rattle.std.specs.Arc.{arc_value}
use Rattle.rv_exec.specs.Bodies.{units_of}
use Rattle.rv_behind.proofs.Doing.{does_ask, changed_is, changed_limits, brings_change}
use Rattle.rv_behind.proofs.behind.Behind.operate.Goals as goal

pub returns-in-Load-clause-does : goal.returns-in-Load-clause-does
returns-in-Load-clause-does c = does_ask c.args.self.now.host.value (arc_value c.args.self.now.bodies).bodies 0 c.args.ask _ _ _ c.in-Load.is (subst Legal c.deref.ensures c.replays.ensures.legal) c.args.self.now.brought c.load.ensures.does

pub returns-in-LoadWithoutMemory-clause-does : goal.returns-in-LoadWithoutMemory-clause-does
returns-in-LoadWithoutMemory-clause-does c = does_ask c.args.self.now.host.value (arc_value c.args.self.now.bodies).bodies 0 c.args.ask _ _ _ c.in-LoadWithoutMemory.is (subst Legal c.deref.ensures c.replays.ensures.legal) c.args.self.now.brought c.load_without_memory.ensures.does

pub returns-in-Change-clause-does : goal.returns-in-Change-clause-does
returns-in-Change-clause-does c = let s = c.args.self.now in
    does_ask s.host.value (arc_value s.bodies).bodies 0 c.args.ask _ _ _ c.in-Change.is (subst Legal c.deref.ensures c.replays.ensures.legal) s.brought
    (changed_is s.host.value _ (units_of (arc_value s.bodies).bodies) c.in-Change.change _ (subst Legal c.deref.ensures c.replays.ensures.legal)
    (subst (λ (z : History). MayLackMemory (due_change z c.in-Change.change) c.change_list.result) c.deref_mut.ensures.value c.change_list.ensures.answer)
    (c.change_list.ensures.history ∙ ap (λ (z : History). after_change z c.in-Change.change c.change_list.result) c.deref_mut.ensures.value))

pub returns-in-Change-clause-about : goal.returns-in-Change-clause-about
returns-in-Change-clause-about c = let s = c.args.self.now in
    changed_limits s.host.value c.change_list.new.self c.in-Change.change c.change_list.result
    (c.change_list.ensures.history ∙ ap (λ (z : History). after_change z c.in-Change.change c.change_list.result) c.deref_mut.ensures.value)

pub invariant_of-self : goal.invariant_of-self
invariant_of-self c = let s = c.args.self.now in
    record {
      brought = brings_change s.host.value _ (arc_value s.bodies).bodies c.in-Change.change _ s.brought
          (c.change_list.ensures.history ∙ ap (λ (z : History). after_change z c.in-Change.change c.change_list.result) c.deref_mut.ensures.value);
    }
