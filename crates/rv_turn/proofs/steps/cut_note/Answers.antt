use Rattle.std.proofs.Common.{rules}
use Rattle.rv_turn.proofs.KeptByCuts.{notes}
use Rattle.rv_turn.proofs.steps.cut_note.Goals as goal

pub split_seat-requires : goal.split_seat-requires
split_seat-requires g c = (search rules, search rules, notes g.C.Counted.history g.C.Counted.about g.C.Counted.actor_of _ _ _)
