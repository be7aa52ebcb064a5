use Rattle.std.proofs.Common.{None, sym, arith}
use Rattle.std.proofs.lemmas.Str.Pattern.{split_once_first}
use Rattle.rv_times.specs.Telling.{is_colon}
use Rattle.rv_times.proofs.Cutting.{none_behind}
use Rattle.rv_times.proofs.telling.behind_colon.Goals as goal

pub returns-in-None : goal.returns-in-None
returns-in-None c = sym (none_behind is_colon c.args.head.now (split_once_first 58 c.args.head.now None c.in-None.ensures.cases (omega arith)))
