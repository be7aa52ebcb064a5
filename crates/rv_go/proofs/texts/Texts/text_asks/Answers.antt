use Rattle.std.proofs.Common.{Some}
use Rattle.rv_exec.specs.Bodies.{bodies_view}
use Rattle.rv_go.proofs.Keeping.{asked_kept, kept_by, kept_back}
use Rattle.rv_go.proofs.texts.Texts.text_asks.Goals as goal

pub ask-asked-requires-clause-kept : goal.ask-asked-requires-clause-kept
ask-asked-requires-clause-kept c =
    let old = c.args.self.now in
    (c.in_ok-running.ensures.kept old.budget old.awaited old.heard.items old.listeners.items old.kept).kept

pub returns-clause-asked : goal.returns-clause-asked
returns-clause-asked c =
    let old = c.args.self.now in
    asked_kept (bodies_view old.bodies) old.budget old.awaited old.heard.items old.listeners.items c.in_ok-running.running c.args.text c.args.actor c.ask-asked.result
    (c.in_ok-running.ensures.kept old.budget old.awaited old.heard.items old.listeners.items old.kept) c.ask-asked.ensures.asked

pub invariant_of-self-2 : goal.invariant_of-self-2
invariant_of-self-2 c =
    let old = c.args.self.now in
    record {
      kept = kept_by (bodies_view old.bodies) old.budget old.awaited old.heard.items old.heard.items (Some c.in_ok-running.running) old.listeners.items c.ask-asked.new.listeners.items c.ask-asked.ensures.kept
          (c.in_ok-running.ensures.kept old.budget old.awaited old.heard.items old.listeners.items old.kept);
    }

pub invariant_of-self : goal.invariant_of-self
invariant_of-self c =
    let old = c.args.self.now in
    record { kept = kept_back (bodies_view old.bodies) old.budget old.awaited old.heard.items old.running c.taken.new.running old.listeners.items c.in_err-running.ensures.err old.kept }
