use Rattle.std.proofs.Common.{◌≡◌, true, refl, rules, tests}
use Rattle.std.specs.Prelude.{is_some}
use Rattle.rv_code.specs.BodyView.{body_view}
use Rattle.rv_exec.specs.Bodies.{bodies_view}
use Rattle.rv_go.proofs.Keeping.{task_there}
use Rattle.rv_go.proofs.texts.Texts.task_asks.Goals as goal

pub text_asks-requires : goal.text_asks-requires
text_asks-requires c =
    let there : is_some c.task.result ≡ true = search (rules, tests) in
    (refl, task_there (bodies_view c.args.self.now.bodies) c.args.actor c.task.result (λ body. body_view body.now) there c.task.ensures.found)
