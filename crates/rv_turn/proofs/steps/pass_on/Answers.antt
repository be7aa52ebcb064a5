use Rattle.std.proofs.Common.{rules}
use Rattle.rv_turn.proofs.KeptBySteps.{passes_at}
use Rattle.rv_turn.proofs.steps.pass_on.Goals as goal

pub fetch_add-requires : goal.fetch_add-requires
fetch_add-requires g c = let t = c.requires.turn in (search rules, search rules, passes_at g.C.Counted.history g.C.Counted.about g.C.Counted.actor_of _ _ _ _ t.0 t.1 t.2 t.3 t.4 t.5)
