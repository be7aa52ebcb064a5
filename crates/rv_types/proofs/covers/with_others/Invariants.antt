use Rattle.std.proofs.Common.{◌≡◌, drop}
use Rattle.rv_code.specs.StatementView.{alternatives_view}
use Rattle.rv_types.specs.Coverage.{with_others}
use Rattle.rv_types.proofs.covers.with_others.Given as goal

abbrev pub invariant-loop-alternative : goal.invariant-loop-alternative
invariant-loop-alternative l = with_others (alternatives_view l.list.items) ≡ with_others (alternatives_view (drop l.alternative-index l.list.items))
