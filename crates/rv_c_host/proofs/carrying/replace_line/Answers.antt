use Rattle.std.proofs.Common.{rules}
use Rattle.rv_c_host.proofs.carrying.replace_line.Goals as goal

pub returns-clause-carries : goal.returns-clause-carries
returns-clause-carries c = (c.replace_read-read.result, c.replace_read-read.ensures, search rules)
