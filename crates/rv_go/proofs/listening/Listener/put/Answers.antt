use Rattle.std.proofs.Common.{List, [], sym, subst, Some}
use Rattle.rv_event.specs.declared.entry.Answer.{Answer}
use Rattle.rv_go.specs.Kept.{Keeps}
use Rattle.rv_go.proofs.Following.{forgets_all}
use Rattle.rv_go.proofs.Keeping.{keeps_follows}
use Rattle.rv_go.proofs.listening.Listener.put.Goals as goal

pub returns-then-forgets-clause-keeps : goal.returns-then-forgets-clause-keeps
returns-then-forgets-clause-keeps c = λ r budget all looked own follows.
    let self = c.args.self.now in
    subst (λ (kept : List Answer). Keeps (Some r) budget all self.actor kept (Some (record c.args.run { looked = 0 }))) (sym c.clear.ensures.items)
    (keeps_follows r budget all self.actor [] (record c.args.run { looked = 0 }) (forgets_all r.table budget all self.actor self.answers.items c.args.run looked (own c.if-forgets.true) follows))

pub returns-clause-keeps : goal.returns-clause-keeps
returns-clause-keeps c = λ r budget all looked own follows. let self = c.args.self.now in keeps_follows r budget all self.actor self.answers.items c.args.run follows
