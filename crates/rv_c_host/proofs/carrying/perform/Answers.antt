use Rattle.std.proofs.Common.{rules, ◌≡◌, Some, subst, sym, w32, to_z, of_z}
use Rattle.rv_c_host.proofs.Coming.{brought}
use Rattle.rv_c_host.proofs.carrying.perform.Goals as goal
use Rattle.rv_c_host.specs.Carried.{Performs}
use Rattle.rv_c_host.specs.declared.reading.Read.{Read}
use Rattle.rv_c_host.specs.declared.reading.Read.TheVariants.{Bring}

pub returns-in-Bring : goal.returns-in-Bring
returns-in-Bring c =
    let is : c.args.read ≡ Bring c.in-Bring.unit = search rules in
    subst (λ (r : Read). Performs r c.args.kept.now (Some c.load.new.self) (to_z w32 (of_z w32 c.kind_of.result))) (sym is)
    (brought c.in-Bring.unit c.args.kept.now c.load.new.self c.load.result (to_z w32 (of_z w32 c.kind_of.result)) c.load.ensures (search rules))
