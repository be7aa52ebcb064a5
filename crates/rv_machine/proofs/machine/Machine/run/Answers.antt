use Rattle.std.proofs.Common.{arith}
use Rattle.rv_machine.proofs.RunSteps.{goes_on, comes_to_end}
use Rattle.rv_machine.proofs.machine.Machine.run.Goals as goal

pub requests-init : goal.requests-init
requests-init g c = record { ran = λ now after ran. ran; fits = c.requires }

pub requests-preserved : goal.requests-preserved
requests-preserved g c = record {
  ran = λ now after ran. c.requests.invariant.ran now after (goes_on _ g.met.O.Outward.both _ _ _ _ _ _ _ _ _ c.next.ensures.same c.in-Asks.ensures.asks c.answer.ensures.answered c.ask-answer.ensures.asked ran);
  fits = c.answer.ensures.fits;
}

pub requests-smaller : goal.requests-smaller
requests-smaller g c = let a = c.next.ensures.left in let b = c.answer.ensures.less in omega (arith, a, b)

pub returns-in-Ended : goal.returns-in-Ended
returns-in-Ended g c = comes_to_end _ g.met.O.Outward.none _ _ _ _ _ _ c.next.ensures.same c.in-Ended.ensures.ended c.requests.invariant.ran

pub next-requires : goal.next-requires
next-requires g c = c.requests.invariant.fits

pub answer-requires-clause-fits : goal.answer-requires-clause-fits
answer-requires-clause-fits g c = c.next.ensures.fits
