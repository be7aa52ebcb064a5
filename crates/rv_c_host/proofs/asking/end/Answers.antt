use Rattle.std.proofs.Common.{rules, ap, List, ℤ, w32, to_z, of_z}
use Rattle.rv_event.specs.declared.entry.Request.TheVariants.{Complete}
use Rattle.rv_c_host.proofs.Ending.{asked}
use Rattle.rv_c_host.proofs.asking.end.Goals as goal

pub returns : goal.returns
returns c =
    asked c.args.actor c.args.scalars.now c.args.values.now c.args.number c.in-Some.exit c.give.new.request c.args.handle.now.value
    c.plain.new.handle.value c.args.told.now c.plain.new.told (to_z w32 (of_z w32 c.plain.result)) (search rules) (search rules) (search rules)
    (c.give.ensures c.in-Some.exit (ap (λ (x : List ℤ). Complete x c.in-Some.exit) c.new.ensures)) (search rules)
