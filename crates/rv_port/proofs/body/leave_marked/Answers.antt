use Rattle.std.proofs.Common.{[], None, refl, inr}
use Rattle.rv_port.specs.Bodies.{left_alone}
use Rattle.rv_port.specs.Composing.{went_none}
use Rattle.rv_port.proofs.body.leave_marked.Goals as goal

pub returns : goal.returns
returns c = λ lent. record {
  had = None;
  had_is = inr refl;
  trace = [];
  runs = (left_alone c.args.begun.now c.args.scalars.now, (refl, refl), c.leave_alone.ensures.request, c.leave_alone.ensures.exit);
  went = went_none c.args.asker.now.pass;
  marked_is = refl;
}
