use Rattle.std.proofs.Common.{[], None, refl, inr}
use Rattle.rv_port.specs.Composing.{went_none}
use Rattle.rv_port.proofs.asker.Asker.run_nothing.Goals as goal

pub returns : goal.returns
returns c = λ lent budget. record {
  had = None;
  had_is = inr refl;
  trace = [];
  runs = (refl, refl);
  went = went_none c.args.self.now.pass;
  goes = refl;
  marked_is = refl;
}
