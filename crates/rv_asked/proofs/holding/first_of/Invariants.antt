use Rattle.std.proofs.Common.{◌≡◌, [], take}
use Rattle.std.specs.List.{filter}
use Rattle.rv_asked.proofs.Finding.{by}
use Rattle.rv_asked.proofs.holding.first_of.Given as goal

abbrev pub invariant-loop-body : goal.invariant-loop-body
invariant-loop-body l = filter (by l.actor) (take l.body-index l.bodies) ≡ []
