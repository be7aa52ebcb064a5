use Rattle.std.proofs.Common.{◌≡◌, true, false, ap, subst, ◌∙◌, rules, tests}
use Rattle.std.specs.Prelude.{is_some}
use Rattle.std.specs.Arc.{arc_value}
use Rattle.rv_history.specs.History.{History}
use Rattle.rv_history.specs.Legal.{Legal, out_load}
use Rattle.rv_exec.specs.Bodies.{units_of}
use Rattle.rv_event.specs.Recorded.{recorded}
use Rattle.rv_behind.proofs.Doing.{unloaded_due, unloaded_lack}
use Rattle.rv_behind.proofs.behind.Behind.load_without_memory.Goals as goal

pub returns-then-is_some-clause-does : goal.returns-then-is_some-clause-does
returns-then-is_some-clause-does c = let is : is_some (recorded c.due_load-due.result) ≡ true = search (rules, tests) in
    unloaded_lack c.args.self.now.host.value (units_of (arc_value c.args.self.now.bodies).bodies) c.args.shape.now _ (subst Legal c.deref-host.ensures c.replays.ensures.legal) (c.due_load-due.ensures ∙ ap (λ (z : History). out_load z c.args.shape.now) c.deref-host.ensures) is

pub returns-clause-does : goal.returns-clause-does
returns-clause-does c = let is : is_some (recorded c.due_load-due.result) ≡ false = search (rules, tests) in
    unloaded_due c.args.self.now.host.value (units_of (arc_value c.args.self.now.bodies).bodies) c.args.shape.now _ (subst Legal c.deref-host.ensures c.replays.ensures.legal) (c.due_load-due.ensures ∙ ap (λ (z : History). out_load z c.args.shape.now) c.deref-host.ensures) is
