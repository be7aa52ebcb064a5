use Rattle.std.proofs.Common.{rules}
use Rattle.rv_turn.proofs.KeptByCuts.{takes}
use Rattle.rv_turn.proofs.steps.join_pass.Goals as goal

pub join_seat-requires : goal.join_seat-requires
join_seat-requires g c = let o = c.requires.other in
    (search rules, search rules, o.4, search rules, takes g.C.Counted.history g.C.Counted.about g.C.Counted.actor_of _ _ _ _ _ c.requires.first o.3 o.0 o.1 o.2)
