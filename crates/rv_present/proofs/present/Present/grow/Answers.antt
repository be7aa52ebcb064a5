use Rattle.std.proofs.Common.{◌∷◌}
use Rattle.rv_event.specs.declared.entry.Entry.TheVariants.{Load}
use Rattle.rv_present.proofs.Small.{small}
use Rattle.rv_present.proofs.present.Present.grow.Goals as goal

pub put_after-requires-clause-small : goal.put_after-requires-clause-small
put_after-requires-clause-small c =
    let k = c.requires in
    λ object. small (record { limits = k.limits; past = Load ∷ k.past; shapes = c.args.catalogue.now; lists = k.lists }) object k.legal
