use Rattle.std.proofs.Common.{◌≡◌, refl}
use Rattle.rv_go.specs.Runs.{heard_by}
use Rattle.rv_go.proofs.Keeping.{keeps_run, keeps_whole, made_follows, on_err}
use Rattle.rv_go.proofs.listening.Listener.run_of.Goals as goal

pub returns-in-Some-clause-follows : goal.returns-in-Some-clause-follows
returns-in-Some-clause-follows c =
    let self = c.args.self.now in
    keeps_run c.args.running.now c.args.budget (heard_by self.actor c.args.heard.now.items) self.actor self.answers.items self.run c.in-Some.run' c.in-Some.ensures.some c.requires.listens

pub returns-in-None-clause-follows : goal.returns-in-None-clause-follows
returns-in-None-clause-follows c =
    let self = c.args.self.now in
    let all = heard_by self.actor c.args.heard.now.items in
    made_follows c.args.running.now.table c.args.budget all self.actor self.answers.items c.new.result
    (keeps_whole c.args.running.now c.args.budget all self.actor self.answers.items self.run c.args.text c.requires.text (c.in-None.ensures.other refl) c.requires.listens) c.new.ensures.run

pub returns-in-None-clause-err : goal.returns-in-None-clause-err
returns-in-None-clause-err c =
    let self = c.args.self.now in
    let all = heard_by self.actor c.args.heard.now.items in
    on_err c.new.result (self.answers.items ≡ all)
    (keeps_whole c.args.running.now c.args.budget all self.actor self.answers.items self.run c.args.text c.requires.text (c.in-None.ensures.other refl) c.requires.listens)
