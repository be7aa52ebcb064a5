use Rattle.std.proofs.Common.{◌≡◌, drop}
use Rattle.rv_code.specs.StatementView.{alternatives_view}
use Rattle.rv_types.specs.Coverage.{lie_in}
use Rattle.rv_types.proofs.covers.lie_in.Given as goal

abbrev pub invariant-loop-alternative : goal.invariant-loop-alternative
invariant-loop-alternative l = lie_in l.range (alternatives_view l.list.items) ≡ lie_in l.range (alternatives_view (drop l.alternative-index l.list.items))
