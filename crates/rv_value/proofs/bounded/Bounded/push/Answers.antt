use Rattle.std.proofs.Common.{arith, ap, length}
use Rattle.rv_value.specs.Padded.{length-take-padded}
use Rattle.rv_value.proofs.PaddedLemmas.{IsPadded-set}
use Rattle.rv_value.proofs.bounded.Bounded.push.Goals as goal

pub invariant_of-self : goal.invariant_of-self
invariant_of-self g c =
    let len_is = length-take-padded c.self.invariant in
    IsPadded-set _ c.self.invariant (omega (arith, len_is, ap length c.self.view_is))
