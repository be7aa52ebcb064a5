use Rattle.std.proofs.Common.{◌∙◌, sym}
use Rattle.rv_ranged.proofs.Ends.{parameters_lack}
use Rattle.rv_ranged.proofs.operation.parameters_fit.Goals as goal

pub returns-in_default : goal.returns-in_default
returns-in_default c =
    sym (parameters_lack c.args.owns.now c.loop-own.left.now c.loop-own.own-index c.loop-own-test.true c.in_default.len_below) ∙ c.loop-own.invariant
