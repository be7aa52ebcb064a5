use Rattle.std.proofs.Common.{◌≡◌, ◌<◌, ◌-◌, ◌∙◌, sym, subst, length, ap, List, ◌∷◌, get_or, set, drop, replicate, Option, Some}
use Rattle.std.specs.Prelude.{slice_get, if◌then◌else◌}
use Rattle.std.specs.List.{filter}
use Rattle.rv_prio.specs.declared.held.Held.{Held}
use Rattle.rv_object.specs.declared.action.Action.{Action}
use Rattle.rv_object.specs.Actions.{ObjectView, is_under_way, scalars_after}
use Rattle.rv_event.specs.declared.entry.Body.{Body}
use Rattle.rv_event.specs.Past.{writes}
use Rattle.rv_event.proofs.Matching.{by}
use Rattle.rv_event.specs.Past as past
use Rattle.rv_present.specs.Holdings.{idle}
use Rattle.rv_present.specs.Bodies.{IsBodies}
use Rattle.rv_present.specs.Holdings.{action_of}
use Rattle.rv_present.proofs.Acting.{in_way}
use Rattle.rv_present.proofs.UnderWay.{each_inner, end_kept, end_none, end_scalars, none_is}
use Rattle.rv_present.proofs.Holding.{inner_body, no_inner, body_of}
use Rattle.rv_present.specs.Bodies.{IsKnown}
use Rattle.rv_present.proofs.bodies.Bodies.end.Goals as goal

pub returns-in_default-clause-kept : goal.returns-in_default-clause-kept
returns-in_default-clause-kept c = λ bs k.
    end_none c.args.catalogue.now bs c.args.self.now c.args.actor
    (no_inner c.args.catalogue.now c.args.actor bs
    (ap (λ (hs : List Held). slice_get hs 0) (sym (c.of.ensures ∙ k.stacks c.args.actor)) ∙ sym c.innermost.ensures ∙ none_is c.innermost.result c.in_default.not-Some)) k

pub returns-in_default-clause-scalars : goal.returns-in_default-clause-scalars
returns-in_default-clause-scalars c = λ bs k o.
    sym (ap (λ (q : Option Body). if writes c.args.catalogue.now o q then c.args.given.now else (get_or c.args.self.now.objects o idle).scalars)
    (no_inner c.args.catalogue.now c.args.actor bs
    (ap (λ (hs : List Held). slice_get hs 0) (sym (c.of.ensures ∙ k.stacks c.args.actor)) ∙ sym c.innermost.ensures ∙ none_is c.innermost.result c.in_default.not-Some)))

-- the body that ends
inner : (c : goal.After-end-arg-2-1) (bs : List Body) → IsBodies c.args.catalogue.now bs c.args.self.now → slice_get (filter (by c.args.actor) bs) 0 ≡ Some (body_of c.args.actor c.in-Some.held)
inner c bs k =
    inner_body c.args.catalogue.now c.args.actor bs c.in-Some.held
    (ap (λ (hs : List Held). slice_get hs 0) (sym (c.of.ensures ∙ k.stacks c.args.actor)) ∙ sym c.innermost.ensures ∙ c.in-Some.is)

pub end-requires : goal.end-requires
end-requires c =
    let bs = c.requires.0 in
    let k = c.requires.1 in
    let inner : slice_get (filter (by c.args.actor) bs) 0 ≡ Some (body_of c.args.actor c.in-Some.held) =
    inner_body c.args.catalogue.now c.args.actor bs c.in-Some.held
    (ap (λ (hs : List Held). slice_get hs 0) (sym (c.of.ensures ∙ k.stacks c.args.actor)) ∙ sym c.innermost.ensures ∙ c.in-Some.is) in
    (each_inner (IsKnown (length c.args.self.now.stacks) (length c.args.self.now.objects)) c.args.actor (body_of c.args.actor c.in-Some.held) bs inner k.known).0

pub end-requires-2-clause-known : goal.end-requires-2-clause-known
end-requires-2-clause-known c =
    let bs = c.requires.0 in
    let k = c.requires.1 in
    (each_inner (IsKnown (length c.args.self.now.stacks) (length c.args.self.now.objects)) c.args.actor (body_of c.args.actor c.in-Some.held) bs (inner c bs k) k.known).1

pub end-requires-2-clause-under_way : goal.end-requires-2-clause-under_way
end-requires-2-clause-under_way c =
    let bs = c.requires.0 in
    let k = c.requires.1 in
    let shapes = c.args.catalogue.now in
    let b : Body = body_of c.args.actor c.in-Some.held in
    ap (λ (x : Action). is_under_way x (get_or c.args.self.now.objects b.object idle).actions) c.action_by-action.ensures
    ∙ ap (λ (xs : List Action). is_under_way (action_of shapes b) xs) (k.actions b.object) ∙ in_way shapes c.args.actor b bs (inner c bs k)

pub returns-clause-kept : goal.returns-clause-kept
returns-clause-kept c = λ bs k.
    let shapes = c.args.catalogue.now in
    let f = c.args.self.now in
    let a = c.args.actor in
    let b : Body = body_of a c.in-Some.held in
    let was : ObjectView = get_or f.objects b.object idle in
    let x : ObjectView = record { actions = drop 1 was.actions; unsettled = was.unsettled; scalars = scalars_after c.action_by-action.result was.scalars c.args.given.now } in
    let in_it : slice_get (filter (by a) bs) 0 ≡ Some b =
    inner_body shapes a bs c.in-Some.held (ap (λ (hs : List Held). slice_get hs 0) (sym (c.of.ensures ∙ k.stacks a)) ∙ sym c.innermost.ensures ∙ c.in-Some.is) in
    let there = each_inner (IsKnown (length f.stacks) (length f.objects)) a b bs in_it k.known in
    let acts : c.action_by-action.result ≡ action_of shapes b = c.action_by-action.ensures in
    let kept = end_kept shapes bs f a b x there.0 there.1 in_it
    (c.end-2.ensures.alike ∙ ap (λ (y : Action). replicate (length was.actions) y) acts) (c.end-2.ensures.newest ∙ ap (λ (y : Action). y ∷ drop 1 was.actions) acts) k in
    subst (λ (o : List ObjectView). IsBodies shapes (past.without a bs) (record { stacks = c.end.new.self; objects = o; number = f.number - 1 })) (sym c.end-2.ensures.new)
    (subst (λ (s : List (List Held)). IsBodies shapes (past.without a bs) (record { stacks = s; objects = set f.objects b.object x; number = f.number - 1 })) (sym c.end.ensures) kept)

pub returns-clause-scalars : goal.returns-clause-scalars
returns-clause-scalars c = λ bs k o.
    let shapes = c.args.catalogue.now in
    let f = c.args.self.now in
    let a = c.args.actor in
    let b : Body = body_of a c.in-Some.held in
    let was : ObjectView = get_or f.objects b.object idle in
    let x : ObjectView = record { actions = drop 1 was.actions; unsettled = was.unsettled; scalars = scalars_after c.action_by-action.result was.scalars c.args.given.now } in
    let in_it : slice_get (filter (by a) bs) 0 ≡ Some b =
    inner_body shapes a bs c.in-Some.held (ap (λ (hs : List Held). slice_get hs 0) (sym (c.of.ensures ∙ k.stacks a)) ∙ sym c.innermost.ensures ∙ c.in-Some.is) in
    let some : b.object < length f.objects = (each_inner (IsKnown (length f.stacks) (length f.objects)) a b bs in_it k.known).1 in
    ap (λ (xs : List ObjectView). (get_or xs o idle).scalars) c.end-2.ensures.new
    ∙ end_scalars shapes bs f.objects a b x c.args.given.now some in_it (ap (λ (y : Action). scalars_after y was.scalars c.args.given.now) c.action_by-action.ensures) o
