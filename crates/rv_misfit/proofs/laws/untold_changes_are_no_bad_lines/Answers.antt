use Rattle.rv_misfit.proofs.Making.{untold_made}
use Rattle.rv_misfit.proofs.laws.untold_changes_are_no_bad_lines.Goals as goal

pub returns : goal.returns
returns c = untold_made
