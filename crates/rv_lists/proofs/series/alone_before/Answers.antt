use Rattle.std.proofs.Common.{◌-◌, ◌<◌, arith, List, ℕ, length}
use Rattle.std.specs.Prelude.{min}
use Rattle.rv_lists.specs.declared.kept.Kept.{Kept}
use Rattle.rv_lists.proofs.Leaving.{alone_from}
use Rattle.rv_lists.proofs.series.alone_before.Goals as goal

pub returns-then-is_whole-clause-alone : goal.returns-then-is_whole-clause-alone
returns-then-is_whole-clause-alone c = λ some.
    let kept : List Kept = c.args.kept.now in
    let place : ℕ = c.min-most.result - c.loop-i.i in
    let there : place < length kept = grind (arith, c.min-most.ensures, c.saturating_sub.ensures, some) in
    alone_from kept place c.index-kept-place.result there c.index-kept-place.is (λ before. c.is_whole.ensures before c.if-is_whole.true)
