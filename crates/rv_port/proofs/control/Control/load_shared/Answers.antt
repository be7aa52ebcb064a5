use Rattle.std.proofs.Common.{◌≡◌, true, false, rules, tests, inl, refl, subst}
use Rattle.std.specs.Prelude.{is_some}
use Rattle.rv_event.specs.Recorded.{recorded}
use Rattle.rv_port.specs.Controls.{Told}
use Rattle.rv_port.specs.Traces.{Passing}
use Rattle.rv_behind.specs.declared.event.Ask.TheVariants as Wants
use Rattle.rv_port.proofs.Controls.{load_more, load_same}
use Rattle.rv_port.proofs.control.Control.load_shared.Goals as goal

pub invariant_of-self-then-is_none : goal.invariant_of-self-then-is_none
invariant_of-self-then-is_none g c = let no : is_some (recorded c.heard-answer.result) ≡ false = search (rules, tests) in
    load_same _ _ _ _ _ _ c.args.shape c.args.unit c.heard-answer.result c.self.invariant (c.in_ok-reply.reply, c.heard-answer.ensures, c.in_ok-reply.ensures) no

pub returns-then-is_none : goal.returns-then-is_none
returns-then-is_none g c =
    inl (c.args.unit, refl, subst (λ (v : Passing). Told v (Wants.Load c.args.shape c.args.unit) c.heard-answer.result c.act.new.self) c.self.view_is (c.in_ok-reply.reply, c.heard-answer.ensures, c.in_ok-reply.ensures))

pub invariant_of-self-2 : goal.invariant_of-self-2
invariant_of-self-2 g c = let is : is_some (recorded c.heard-answer.result) ≡ true = search (rules, tests) in
    load_more _ _ _ _ _ _ _ c.args.shape c.args.unit c.heard-answer.result c.self.invariant (c.in_ok-reply.reply, c.heard-answer.ensures, c.in_ok-reply.ensures) is c.in-Some.ensures

pub returns : goal.returns
returns g c =
    inl (c.args.unit, refl, subst (λ (v : Passing). Told v (Wants.Load c.args.shape c.args.unit) c.heard-answer.result c.act.new.self) c.self.view_is (c.in_ok-reply.reply, c.heard-answer.ensures, c.in_ok-reply.ensures))
