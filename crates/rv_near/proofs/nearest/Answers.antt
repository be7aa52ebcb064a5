use Rattle.std.proofs.Common.{map, take}
use Rattle.rv_near.proofs.Best.{all_names, none_near, one_more}
use Rattle.rv_near.proofs.nearest.Goals as goal

pub loop-name-preserved : goal.loop-name-preserved
loop-name-preserved c =
    one_more (λ n. n.now) c.args.names.now c.loop-name.name-index _ c.args.word.now _ c.loop-name-test.true
    (c.in_ok-best.ensures (map (λ n. n.now) (take c.loop-name.name-index c.args.names.now)) c.loop-name.invariant)

pub returns-in-None-clause-none : goal.returns-in-None-clause-none
returns-in-None-clause-none c =
    none_near (λ p. (p.0, p.1.now)) c.loop-name.best c.args.word.now (map (λ n. n.now) c.args.names.now) c.in-None.is
    (all_names (λ n. n.now) c.args.names.now c.loop-name.name-index c.args.word.now _ c.loop-name-test.false c.loop-name.invariant)
