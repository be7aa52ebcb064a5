use Rattle.rv_flat.proofs.Tables.{none_yet}
use Rattle.rv_flat.proofs.code.Code.new.Goals as goal

pub returns : goal.returns
returns c = none_yet c.new.result.items c.new.ensures.items
