use Rattle.std.proofs.Common.{length}
use Rattle.rv_rows.proofs.ends.audit_script.Given as goal

abbrev pub decreases-each : goal.decreases-each
decreases-each l = length l.sections
