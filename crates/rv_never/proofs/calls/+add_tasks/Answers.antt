use Rattle.std.proofs.Common.{◌≡◌, ◌∷◌, rules}
use Rattle.rv_never.proofs.Loading.{tasks_more}
use Rattle.rv_never.proofs.calls.+add_tasks.Goals as goal

pub returns : goal.returns
returns t c =
    let split : c.args.bodies.now ≡ c.in-Some.body.now ∷ c.in-Some.others.now = search rules in
    tasks_more c.args.actor c.in-Some.body.now c.args.bodies.now c.in-Some.others.now c.in_ok-task_calls.field-0 c.args.tasks.now.items c.push.new.self.items c.add_tasks.new.tasks.items
    c.add_tasks.result split c.in_ok-task_calls.ensures c.in_ok-push.ensures.items c.add_tasks.ensures
