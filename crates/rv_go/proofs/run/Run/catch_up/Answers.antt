use Rattle.std.proofs.Common.{◌∙◌, arith}
use Rattle.rv_go.proofs.run.Run.catch_up.Goals as goal

pub kept-preserved : goal.kept-preserved
kept-preserved c = record {
  run = λ budget before is. c.look.ensures.run budget before c.args.answers.now c.kept-test.true c.index-answers-self.is (c.kept.invariant.run budget before is);
  fits = c.look.ensures.fits;
  within = let next = c.look.ensures.next in let more = c.kept-test.true in omega (arith, next, more);
  text = c.look.ensures.text ∙ c.kept.invariant.text;
}
