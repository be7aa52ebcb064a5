use Rattle.std.proofs.Common.{◌≡◌, map, take}
use Rattle.rv_crew.specs.Crews.{actor_of}
use Rattle.rv_crew.proofs.crew.actors_of.Given as goal

abbrev pub invariant-loop-port : goal.invariant-loop-port
invariant-loop-port l = l.actors.items ≡ map actor_of (take l.port-index l.ports)
