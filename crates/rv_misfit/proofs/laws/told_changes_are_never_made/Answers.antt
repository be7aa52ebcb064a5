use Rattle.rv_misfit.proofs.Changing.{told_bad, told_unmade}
use Rattle.rv_misfit.proofs.laws.told_changes_are_never_made.Goals as goal

pub returns-clause-answer : goal.returns-clause-answer
returns-clause-answer c = told_bad

pub returns-clause-unmade : goal.returns-clause-unmade
returns-clause-unmade c = told_unmade
