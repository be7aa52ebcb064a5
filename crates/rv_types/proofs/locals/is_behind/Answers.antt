use Rattle.rv_types.proofs.Found.{none_known, one_more_behind}
use Rattle.rv_types.proofs.locals.is_behind.Goals as goal

pub returns-in-len1-up : goal.returns-in-len1-up
returns-in-len1-up c = one_more_behind none_known c.args.locals.now c.args.at c.in-len1-up.len_at_least
