use Rattle.std.proofs.Common.{◌≡◌, List, true, ap, ◌∙◌, arith, length, get_or}
use Rattle.std.proofs.lemmas.Bool.Decides.{nat_tests}
use Rattle.rv_event.specs.Past.{without}
use Rattle.rv_event.specs.declared.entry.Body.{Body}
use Rattle.rv_asked.proofs.Finding.{by, found, none_left}
use Rattle.rv_asked.proofs.holding.take_out.Goals as goal

pub returns-then-index-actor : goal.returns-then-index-actor
returns-then-index-actor c =
    let same_length : length c.loop-at.bodies.items ≡ length c.args.bodies.now.items = ap length c.loop-at.invariant.same in
    let is : by c.args.actor (get_or c.loop-at.bodies.items c.loop-at.at c.index.result.now) ≡ true = grind (arith, nat_tests) in
    c.remove.ensures.items ∙ (found c.args.actor c.loop-at.bodies.items c.loop-at.at c.index.result.now (omega arith) c.loop-at.invariant.none is).rest
    ∙ ap (λ (xs : List Body). without c.args.actor xs) c.loop-at.invariant.same

pub returns : goal.returns
returns c =
    let same_length : length c.loop-at.bodies.items ≡ length c.args.bodies.now.items = ap length c.loop-at.invariant.same in
    none_left c.args.actor c.loop-at.bodies.items c.loop-at.at (omega arith) c.loop-at.invariant.none ∙ ap (λ (xs : List Body). without c.args.actor xs) c.loop-at.invariant.same
