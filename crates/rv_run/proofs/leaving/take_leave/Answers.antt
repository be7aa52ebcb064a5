use Rattle.std.proofs.Common.{List, ℕ, subst}
use Rattle.rv_shape.specs.Shape.{Shape}
use Rattle.rv_run.specs.Finishing.{TellsLost}
use Rattle.rv_run.specs.FinishingBeside.{CountsWith}
use Rattle.rv_run.proofs.Ended.{tells_lost}
use Rattle.rv_run.proofs.leaving.take_leave.Goals as goal

pub returns : goal.returns
returns g c = record {
  told = _;
  kept = c.close-kept.result;
  closes = c.close-kept.ensures;
  lost =
      subst (λ (shapes : List Shape). TellsLost (g.E.Write.contents c.close-kept.new.errors) (g.E.Write.contents c.say_lost.new.writer) shapes c.args.closed.lost.items) c.catalogue.ensures
      (subst (λ (lost : List ℕ). TellsLost (g.E.Write.contents c.close-kept.new.errors) (g.E.Write.contents c.say_lost.new.writer) c.catalogue.result.now lost) c.as_slice.ensures.value
      (tells_lost (g.E.Write.contents c.close-kept.new.errors) (g.E.Write.contents c.say_lost.new.writer) c.catalogue.result.now c.as_slice.result.now c.say_lost.result c.say_lost.ensures));
  counted = subst (λ (entries : ℕ). CountsWith (g.W.Write.contents c.args.outputs.now.writer) (g.W.Write.contents c.count.new.writer) entries c.close-kept.result c.count.result) c.used.ensures c.count.ensures;
}
