use Rattle.std.proofs.Common.{◌≡◌, List, ◌++◌, Ok, length}
use Rattle.rv_play.specs.Acts.{Act, acts_from}
use Rattle.rv_play.specs.Scripted.{playing}
use Rattle.rv_play.specs.Carried.{Carries}
use Rattle.rv_play.proofs.play.carry_out_all.Given as goal

-- the parts so far were carried out, and the other acts are those of the parts that are left
abbrev pub invariant-each : goal.invariant-each
invariant-each g l =
    record {
      done : List Act;
      all_acts : done ++ acts_from l.parts ≡ acts_from l.fn.parts;
      carried : Carries (g.W.Write.contents l.fn.writer) (g.W.Write.contents l.writer) (playing l.fn.player) (playing l.player) done (Ok tt);
    }

abbrev pub decreases-each : goal.decreases-each
decreases-each g l = length l.parts
