use Rattle.rv_access.proofs.Timeless.{same_grant, same_line}
use Rattle.rv_access.proofs.laws.lists_without_windows_heed_no_tick.Goals as goal

pub returns-clause-line : goal.returns-clause-line
returns-clause-line c = same_line

pub returns-clause-granted : goal.returns-clause-granted
returns-clause-granted c = same_grant
