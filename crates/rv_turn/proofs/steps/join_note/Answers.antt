use Rattle.std.proofs.Common.{rules, ap}
use Rattle.rv_turn.proofs.KeptByCuts.{informs}
use Rattle.rv_turn.proofs.steps.join_note.Goals as goal

pub join_seat-requires : goal.join_seat-requires
join_seat-requires g c = let n = c.requires.note in
    (search rules, search rules, ap (λ m. m.1) n, search rules, informs g.C.Counted.history g.C.Counted.about g.C.Counted.actor_of _ _ _ _ _ (ap (λ m. m.0.turn) n) (ap (λ m. m.0.ticket) n))
