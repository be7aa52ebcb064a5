use Rattle.std.proofs.Common.{◌∙◌, sym, ap, subst, arith, Bool, List, length, Some}
use Rattle.std.specs.Prelude.{IsFalse}
use Rattle.rv_event.specs.declared.entry.Answer.{Answer}
use Rattle.rv_go.specs.Runs.{heard_by, is_of_task}
use Rattle.rv_go.proofs.Following.{asked_all, forgets_not}
use Rattle.rv_go.proofs.Keeping.{listens_asked, listens_none}
use Rattle.rv_go.proofs.listening.Listener.asks.Goals as goal

pub returns-in_err-run-clause-listens : goal.returns-in_err-run-clause-listens
returns-in_err-run-clause-listens c =
    listens_none (Some c.args.running.now) c.args.budget c.args.heard.now.items c.args.self.now c.run_of.new.self c.run_of.ensures.none c.run_of.ensures.answers c.in_err-run.ensures.err c.run_of.ensures.actor

pub asks-asked-requires-clause-fits : goal.asks-asked-requires-clause-fits
asks-asked-requires-clause-fits c = c.in_ok-run.ensures.follows.is_run.fits

pub asks-asked-requires-clause-within : goal.asks-asked-requires-clause-within
asks-asked-requires-clause-within c =
    let w = c.in_ok-run.ensures.follows.is_run.within in
    let l = ap (λ (x : List Answer). length x) (c.as_slice.ensures.value ∙ c.run_of.ensures.answers) in
    omega (arith, w, l)

pub returns-clause-asked : goal.returns-clause-asked
returns-clause-asked c =
    let self = c.args.self.now in
    asked_all c.args.running.now.table c.args.budget (heard_by self.actor c.args.heard.now.items) self.actor self.answers.items c.as_slice.result.now c.in_ok-run.run' c.args.text c.asks-asked.result
    (c.as_slice.ensures.value ∙ c.run_of.ensures.answers) c.in_ok-run.ensures.text c.asks-asked.ensures.asked c.in_ok-run.ensures.follows

pub returns-clause-listens : goal.returns-clause-listens
returns-clause-listens c =
    let self = c.args.self.now in
    listens_asked c.args.running.now c.args.budget c.args.heard.now.items self.actor self.answers.items c.as_slice.result.now c.args.text c.args.keeps c.forgets.result c.in_ok-run.run' c.asks-asked.new.self c.run_of.new.self c.put.new.self
    c.as_slice.ensures.value c.run_of.ensures.answers c.run_of.ensures.actor c.put.ensures.actor c.requires.text c.in_ok-run.ensures.text c.asks-asked.ensures.text c.asks-asked.ensures.all c.asks-asked.ensures.run c.forgets.ensures c.put.ensures.keeps
    c.in_ok-run.ensures.follows

pub returns-clause-kept : goal.returns-clause-kept
returns-clause-kept c = λ so.
    c.put.ensures.kept (subst (λ (b : Bool). IsFalse b) (sym c.forgets.ensures) (forgets_not (is_of_task c.args.text) c.args.keeps so)) ∙ c.run_of.ensures.answers
