use Rattle.std.proofs.Common.{rules, ◌≡◌, ℤ, Ok, to_z, of_z, w64, arith, subst, MatchResult}
use Rattle.rv_turn.specs.Passes.{IsWorn}
use Rattle.rv_event.specs.declared.entry.Request.TheVariants as asks
use Rattle.rv_port.specs.Controls.{Told}
use Rattle.rv_behind.specs.declared.event.Ask.{Ask}
use Rattle.rv_shell.specs.declared.order.Order.TheVariants as Orders
use Rattle.rv_shell.proofs.Serving.{asks_told}
use Rattle.rv_shell.proofs.shell.Shell.obey.Goals as goal

pub returns-in-Change-Ok : goal.returns-in-Change-Ok
returns-in-Change-Ok g c =
    let is : c.args.order ≡ Orders.Change (Ok c.in-Change-Ok.change) = search rules in
    rw is (asks_told _ _ c.args.control.now c.change-answer.new.self (Ask.Change c.in-Change-Ok.change) c.change-answer.result _
    c.change-answer.ensures
    c.tell.ensures)

pub returns-in-Tick : goal.returns-in-Tick
returns-in-Tick g c =
    let ticks : to_z w64 (of_z w64 c.in-Tick.ticks) ≡ c.in-Tick.ticks = first_of (search rules, grind arith) in
    rw c.in-Tick.is (asks_told _ _ c.args.control.now c.tick-answer.new.self (Ask.Step (asks.Tick c.in-Tick.ticks)) c.tick-answer.result _
    (subst (λ (n : ℤ). MatchResult c.tick-answer.result
    (λ r. Told c.args.control.now (Ask.Step (asks.Tick n)) r c.tick-answer.new.self)
    (λ x. IsWorn c.args.control.now c.tick-answer.new.self)) ticks c.tick-answer.ensures)
    c.tell-in-Tick.ensures)

pub returns-in-Halt : goal.returns-in-Halt
returns-in-Halt g c =
    rw c.in-Halt.is (asks_told _ _ c.args.control.now c.halt-answer.new.self (Ask.Step asks.Halt) c.halt-answer.result _
    c.halt-answer.ensures
    c.tell-in-Halt.ensures)
