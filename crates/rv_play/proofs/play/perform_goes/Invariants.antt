use Rattle.std.proofs.Common.{Ok, replicate}
use Rattle.rv_play.specs.Acts.{Goes}
use Rattle.rv_play.specs.Carried.{Carries}
use Rattle.rv_play.specs.Scripted.{playing}
use Rattle.rv_play.proofs.play.perform_goes.Given as goal

-- so many were carried out
abbrev pub invariant-loop : goal.invariant-loop
invariant-loop g l = Carries (g.W.Write.contents l.fn.writer) (g.W.Write.contents l.writer) (playing l.fn.player) (playing l.player) (replicate l.counter (Goes l.line l.asker)) (Ok tt)
