use Rattle.std.proofs.Common.{[], ap}
use Rattle.rv_lasting.specs.Tracks.{Tracked}
use Rattle.rv_export.proofs.kept.Kept.new.Goals as goal

pub returns : goal.returns
returns c = λ limits. record {
  holding = c.new.ensures [];
  calls = c.new-2.ensures;
  bodies = ap (λ (t : Tracked). t.begun) c.new-3.ensures;
  left = c.new-4.ensures;
  drops = c.new-5.ensures;
}
