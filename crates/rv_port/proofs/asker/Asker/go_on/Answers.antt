use Rattle.std.proofs.Common.{◌≡◌, ◌∙◌, sym, rules, arith}
use Rattle.rv_port.proofs.Endings.{ran_lent, ended_lent}
use Rattle.rv_port.proofs.asker.Asker.go_on.Goals as goal

pub returns-clause-ran : goal.returns-clause-ran
returns-clause-ran g c =
    let zero : c.args.self.now.held ≡ 0 = first_of (search rules, grind arith) in
    ran_lent c.args.self.now.pass c.borrow.new.self.pass c.run_lent.new.self.pass c.args.self.now.is_refused c.borrow.new.self.is_refused c.run_lent.new.self.is_refused c.args.budget c.run_lent.result.0 c.run_lent.result.1 c.in-Ok.lent (sym c.args.self.now.counts ∙ zero)
    c.in-Ok.ensures.borrows c.borrow.ensures.mark c.run_lent.ensures

pub returns-clause-ended : goal.returns-clause-ended
returns-clause-ended g c =
    let zero : c.args.self.now.held ≡ 0 = first_of (search rules, grind arith) in
    ended_lent c.args.self.now.pass c.borrow.new.self.pass c.run_lent.new.self.pass c.args.self.now.is_refused c.borrow.new.self.is_refused c.run_lent.new.self.is_refused c.args.budget c.run_lent.result.0 c.run_lent.result.1 c.in-Ok.lent (sym c.args.self.now.counts ∙ zero)
    c.in-Ok.ensures.borrows c.borrow.ensures.mark c.run_lent.ensures
