use Rattle.std.proofs.Common.{◌≡◌, map}
use Rattle.rv_ends.specs.Afoot.{open_view, with_ask}
use Rattle.rv_ends.proofs.Heard.{upto}
use Rattle.rv_ends.proofs.answered.hear_all.Given as goal

abbrev pub invariant-loop-body : goal.invariant-loop-body
invariant-loop-body l = map open_view l.bodies ≡ upto l.body-index (with_ask l.actor l.request l.answer) (map open_view l.fn.bodies)
