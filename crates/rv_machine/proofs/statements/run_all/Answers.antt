use Rattle.std.proofs.Common.{◌∙◌, sym, ap, subst, refl, arith, Some}
use Rattle.rv_exec.specs.declared.activation.Activation.{Activation}
use Rattle.rv_machine.specs.declared.stack.Stack.{Stack}
use Rattle.rv_machine.specs.Stacks.{HasRoom, room}
use Rattle.rv_machine.proofs.AtOnceSteps.{next_ends, next_stops, fewer_statements}
use Rattle.rv_machine.proofs.Composing.{stays, goes_on, comes_to, comes_to_in, keeps}
use Rattle.rv_machine.proofs.Meetings.{in_each}
use Rattle.rv_machine.proofs.Steps.{end_on}
use Rattle.rv_machine.proofs.StatementSteps.{no_statement, next_statement, overruns}
use Rattle.rv_machine.proofs.statements.run_all.Goals as goal

pub statements-init : goal.statements-init
statements-init c = (stays _ _, refl)

pub statements-preserved : goal.statements-preserved
statements-preserved c = (
  goes_on _ _ _ _ _ _ c.statements.invariant.0 (next_ends _ _ _ _ _ _ _ _ c.in-Some.ensures.found (c.if-not-step.ensures.yes refl) c.in-Some-end_at_once.ensures.some (sym c.is_next.ensures ∙ c.if-not-is_next.false)),
  c.statements.invariant.1,
)

pub statements-smaller : goal.statements-smaller
statements-smaller c = fewer_statements _ _ _ c.in-Some.ensures.found

pub returns-then-not-step-clause-leads : goal.returns-then-not-step-clause-leads
returns-then-not-step-clause-leads c = in_each _ _ _ _ _ (comes_to _ _ _ _ _ _ c.statements.invariant.0 (overruns _ _ _ _ _ _ c.in-Some.ensures.found (c.if-not-step.ensures.no refl) (c.if-not-step.ensures.same refl)))

pub returns-then-not-is_next-clause-leads : goal.returns-then-not-is_next-clause-leads
returns-then-not-is_next-clause-leads c = in_each _ _ _ _ _ (comes_to _ _ _ _ _ _ c.statements.invariant.0 (next_stops _ _ _ _ _ _ _ _ c.in-Some.ensures.found (c.if-not-step.ensures.yes refl) c.in-Some-end_at_once.ensures.some (sym c.is_next.ensures ∙ c.if-not-is_next.true)))

pub returns-in-None-clause-leads : goal.returns-in-None-clause-leads
returns-in-None-clause-leads c = comes_to_in _ _ _ _ _ _ _ c.statements.invariant.0 (comes_to_in _ _ _ _ _ _ _ (keeps _ _ _ _ (next_statement _ _ _ _ _ _ _ c.in-Some.ensures.found (c.if-not-step.ensures.yes refl ∙ ap (λ (x : Activation). Some x) (sym (c.in-None.ensures.none refl))) (end_on c.args.unit.now c.statements.stack c.push_end.new.self _ c.push_end.ensures.frames c.push_end.ensures.activations))) c.run.ensures.leads)

pub returns-clause-leads : goal.returns-clause-leads
returns-clause-leads c = in_each _ _ _ _ _ (comes_to _ _ _ _ _ _ c.statements.invariant.0 (no_statement _ _ _ (c.in_default.ensures.none refl)))

pub returns-then-not-step-clause-kept : goal.returns-then-not-step-clause-kept
returns-then-not-step-clause-kept c = ap (λ (x : Stack). room x) c.statements.invariant.1

pub returns-then-not-is_next-clause-kept : goal.returns-then-not-is_next-clause-kept
returns-then-not-is_next-clause-kept c = ap (λ (x : Stack). room x) c.statements.invariant.1

pub returns-clause-kept : goal.returns-clause-kept
returns-clause-kept c = ap (λ (x : Stack). room x) c.statements.invariant.1

pub returns-in-None-clause-kept : goal.returns-in-None-clause-kept
returns-in-None-clause-kept c = c.run.ensures.kept ∙ (c.push_end.ensures.kept ∙ ap (λ (x : Stack). room x) c.statements.invariant.1)

pub push_end-requires : goal.push_end-requires
push_end-requires c =
    let room : HasRoom 3 c.statements.stack = subst (λ (x : Stack). HasRoom 3 x) (sym c.statements.invariant.1) c.requires in
    omega (arith, room)

pub run-requires : goal.run-requires
run-requires c =
    let room : HasRoom 3 c.statements.stack = subst (λ (x : Stack). HasRoom 3 x) (sym c.statements.invariant.1) c.requires in
    let longer = c.push_end.ensures.longer in
    let same = c.push_end.ensures.capacity in
    omega (arith, room, longer, same)
