use Rattle.std.proofs.Common.{◌≡◌, true, false, rules, tests, List, subst, sym}
use Rattle.std.specs.Prelude.{is_some, Option}
use Rattle.rv_access.specs.Words.{Words}
use Rattle.rv_event.specs.Recorded.{recorded}
use Rattle.rv_port.specs.Controls.{AreKept}
use Rattle.rv_port.proofs.Controls.{change_more, change_same, worn_kept}
use Rattle.rv_port.proofs.control.Control.change.Goals as goal

pub invariant_of-self-then-is_none : goal.invariant_of-self-then-is_none
invariant_of-self-then-is_none g c = let no : is_some (recorded c.heard-answer.result) ≡ false = search (rules, tests) in
    change_same _ _ _ _ _ _ c.args.change c.heard-answer.result c.self.invariant (c.in_ok-reply.reply, c.heard-answer.ensures, c.in_ok-reply.ensures) no

pub invariant_of-self-2 : goal.invariant_of-self-2
invariant_of-self-2 g c = let is : is_some (recorded c.heard-answer.result) ≡ true = search (rules, tests) in
    change_more _ _ _ _ _ _ _ c.args.change c.heard-answer.result c.self.invariant (c.in_ok-reply.reply, c.heard-answer.ensures, c.in_ok-reply.ensures) is
    (λ before kept. c.with_change.ensures before c.args.change (subst (λ (l : Option (List (List Words))). AreKept l before) (sym c.take.ensures.value) kept) c.copy_of-copy.ensures)

pub invariant_of-self : goal.invariant_of-self
invariant_of-self g c = worn_kept _ _ _ _ _ _ c.self.invariant c.in_err-reply.ensures
