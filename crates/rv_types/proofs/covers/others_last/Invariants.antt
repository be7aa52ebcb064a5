use Rattle.std.proofs.Common.{◌≡◌, drop}
use Rattle.std.specs.Prelude.{if◌then◌else◌}
use Rattle.rv_code.specs.StatementView.{alternatives_view}
use Rattle.rv_types.specs.Coverage.{are_none, others_last}
use Rattle.rv_types.proofs.covers.others_last.Given as goal

abbrev pub invariant-loop-alternative : goal.invariant-loop-alternative
invariant-loop-alternative l =
    others_last (alternatives_view l.list.items)
    ≡ (if l.is_last then are_none (alternatives_view (drop l.alternative-index l.list.items))
    else others_last (alternatives_view (drop l.alternative-index l.list.items)))
