use Rattle.std.proofs.Common.{◌≡◌, subst, sym, rules}
use Rattle.std.specs.Arc.{arc_value}
use Rattle.rv_history.specs.History.{History}
use Rattle.rv_behind.specs.Acting.{AreBrought}
use Rattle.rv_behind.proofs.behind.Behind.boxed.Goals as goal

pub invariant_of-result : goal.invariant_of-result
invariant_of-result c =
    let same : c.in-Ok.host.value ≡ c.args.host = search rules in
    record { brought = subst (λ (h : History). AreBrought h (arc_value c.args.bodies).bodies) (sym same) c.requires }
