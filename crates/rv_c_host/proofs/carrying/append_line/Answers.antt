use Rattle.std.proofs.Common.{rules}
use Rattle.rv_c_host.proofs.carrying.append_line.Goals as goal

pub returns-clause-carries : goal.returns-clause-carries
returns-clause-carries c = (c.append_read-read.result, c.append_read-read.ensures, search rules)
