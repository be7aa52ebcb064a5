use Rattle.std.proofs.Common.{sym, subst}
use Rattle.std.proofs.lemmas.Result.{on_ok_weaker}
use Rattle.rv_explained.specs.Ties.{KeepsDrops}
use Rattle.rv_explained.specs.declared.drops.Drops.{Drops}
use Rattle.rv_explained.proofs.refusals.put_resumed.Goals as goal

pub returns : goal.returns
returns c =
    let h = c.args._host.now in
    on_ok_weaker c.put_dropped.result
    (λ put keeps. put h.past h.lists (subst (λ (d : Drops). KeepsDrops d h.past h.lists) (sym c.drops.ensures) keeps.drops)) c.put_dropped.ensures
