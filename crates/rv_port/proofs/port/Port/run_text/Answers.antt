use Rattle.std.proofs.Common.{ℕ, subst}
use Rattle.rv_port.specs.Endings.{TextEnded}
use Rattle.rv_port.specs.Following.{FollowsUnless}
use Rattle.rv_port.specs.Ports.{pass_of}
use Rattle.rv_port.specs.Texts.{TextRan}
use Rattle.rv_port.proofs.port.Port.run_text.Goals as goal

pub returns-clause-ran : goal.returns-clause-ran
returns-clause-ran g c = subst (λ (n : ℕ). TextRan (pass_of c.args.self.now) c.args.self.now.refused n c.run_within.result.0 (pass_of c.run_within.new.self) c.run_within.new.self.refused) c.requests.ensures.same c.run_within.ensures.ran

pub returns-clause-ended : goal.returns-clause-ended
returns-clause-ended g c = subst (λ (n : ℕ). TextEnded (pass_of c.args.self.now) c.args.self.now.refused n c.run_within.result.0 c.run_within.result.1 (pass_of c.run_within.new.self) c.run_within.new.self.refused) c.requests.ensures.same c.run_within.ensures.ended

pub returns-clause-followed : goal.returns-clause-followed
returns-clause-followed g c = subst (λ (n : ℕ). FollowsUnless c.run_within.new.self.refused n (pass_of c.args.self.now) (pass_of c.run_within.new.self)) c.requests.ensures.same c.run_within.ensures.followed
