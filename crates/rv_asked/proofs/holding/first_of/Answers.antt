use Rattle.std.proofs.Common.{◌≡◌, true, sym, arith, slice_index_or}
use Rattle.std.proofs.lemmas.Bool.Decides.{nat_tests}
use Rattle.rv_asked.proofs.Finding.{by, found}
use Rattle.rv_asked.proofs.holding.first_of.Goals as goal

pub returns-then-body-actor : goal.returns-then-body-actor
returns-then-body-actor c =
    let is : by c.args.actor (slice_index_or c.args.bodies.now c.loop-body.body-index (record { actor = 0; object = 0; operation = 0 })) ≡ true = grind (arith, nat_tests) in
    sym (found c.args.actor c.args.bodies.now c.loop-body.body-index (record { actor = 0; object = 0; operation = 0 }) (omega arith) c.loop-body.invariant is).first
