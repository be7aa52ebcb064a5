use Rattle.std.proofs.Common.{refl}
use Rattle.rv_types.proofs.Sharing.{list_given}
use Rattle.rv_types.proofs.protected.give.Goals as goal

pub returns-clause-code : goal.returns-clause-code
returns-clause-code c = λ same e. list_given c.args.index _ _ _ _ same refl e c.give.ensures.view
