use Rattle.std.proofs.Common.{rules}
use Rattle.rv_turn.proofs.KeptByCuts.{grants_at}
use Rattle.rv_turn.proofs.steps.cut_pass.Goals as goal

pub split_seat-requires : goal.split_seat-requires
split_seat-requires g c = let t = c.requires.first in let q = c.requires.grant in
    (search rules, search rules, grants_at g.C.Counted.history g.C.Counted.about g.C.Counted.actor_of _ _ _ c.args.actor g.G.Grant.actor c.args.acts g.G.Grant.acts q.0 q.1 t.0 t.1 t.2 t.3)
