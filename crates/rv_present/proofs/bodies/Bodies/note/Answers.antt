use Rattle.std.proofs.Common.{◌≡◌, ◌∙◌, arith, ap, length, List, [], get_or}
use Rattle.std.specs.List.{filter}
use Rattle.std.proofs.lemmas.List.{length-map}
use Rattle.rv_event.specs.Lent.{whole}
use Rattle.rv_prio.specs.declared.held.Held.{Held}
use Rattle.rv_event.specs.Past.{closed, ended}
use Rattle.rv_event.proofs.Matching.{by}
use Rattle.rv_present.specs.Holdings.{held_of, holdings}
use Rattle.rv_present.specs.Bodies.{IsBodies, CanStart}
use Rattle.rv_present.proofs.bodies.Bodies.note.Goals as goal

can : (c : goal.After-begin-arg-1) → CanStart c.args.catalogue.now (closed (ended (whole c.args.entry.now)) c.requires.ready.0) (length c.args.self.now.stacks) (length c.args.self.now.objects) c.in-Some.body
can c = c.requires.ready.1.starts c.in-Some.body c.in-Some.is

between : (c : goal.After-begin-arg-1) → IsBodies c.args.catalogue.now (closed (ended (whole c.args.entry.now)) c.requires.ready.0) c.end_if.new.self
between c = c.end_if.ensures.kept c.requires.ready.0 c.requires.ready.1.sound

pub begin-requires-clause-actor : goal.begin-requires-clause-actor
begin-requires-clause-actor c = let k = can c in omega (arith, k.actor, c.end_if.ensures.same.0)

pub begin-requires-clause-object : goal.begin-requires-clause-object
begin-requires-clause-object c = let k = can c in omega (arith, k.object, c.end_if.ensures.same.1)

pub begin-requires-clause-room : goal.begin-requires-clause-room
begin-requires-clause-room c =
    let k = can c in
    let bs = closed (ended (whole c.args.entry.now)) c.requires.ready.0 in
    let b = between c in
    let same : length (get_or c.end_if.new.self.stacks c.in-Some.body.actor []) ≡ length (holdings c.args.catalogue.now c.in-Some.body.actor bs) = ap (λ (hs : List Held). length hs) (b.stacks c.in-Some.body.actor) in
    omega (arith, same, length-map (filter (by c.in-Some.body.actor) bs) (held_of c.args.catalogue.now), k.room)

pub begin-requires-clause-settled : goal.begin-requires-clause-settled
begin-requires-clause-settled c = c.end_if.ensures.unsettled c.in-Some.body.object ∙ c.requires.settled c.in-Some.body c.in-Some.is

pub begin-requires-clause-few : goal.begin-requires-clause-few
begin-requires-clause-few c = let k = can c in let b = between c in omega (arith, k.few, b.count)
