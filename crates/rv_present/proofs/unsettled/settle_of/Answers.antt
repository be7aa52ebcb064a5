use Rattle.std.proofs.Common.{◌∙◌, ◌-◌, false, get_or, set, List, None, refl, subst, sym}
use Rattle.rv_object.specs.Actions.{ObjectView}
use Rattle.rv_event.specs.Past.{without}
use Rattle.rv_present.specs.Holdings.{idle}
use Rattle.rv_present.specs.Unsettled.{AreUnsettled, Leavers}
use Rattle.rv_present.proofs.Leaving.{leaver_known, none_is, nothing_settled, settled_kept}
use Rattle.rv_present.proofs.unsettled.settle_of.Goals as goal

pub settle-requires : goal.settle-requires
settle-requires c = (leaver_known c.requires.0 c.args.unsettled.now c.args.objects.now c.args.actor c.in-Some.body (sym c.of.ensures ∙ c.in-Some.is) c.requires.1).1

pub returns-in-Some-clause-kept : goal.returns-in-Some-clause-kept
returns-in-Some-clause-kept c = λ left k.
    let u = c.args.unsettled.now in
    let objects = c.args.objects.now in
    let a = c.args.actor in
    let b = c.in-Some.body in
    let x : ObjectView = record (get_or objects b.object idle) { unsettled = false } in
    subst (λ (v : Leavers). AreUnsettled (without a left) v c.settle.new.self) (sym c.take.ensures)
    (subst (λ (os : List ObjectView). AreUnsettled (without a left) (record { bodies = set u.bodies a None; number = u.number - 1 }) os) (sym c.settle.ensures)
    (settled_kept left u objects a b x (sym c.of.ensures ∙ c.in-Some.is) refl k))

pub returns-in_default-clause-kept : goal.returns-in_default-clause-kept
returns-in_default-clause-kept c = λ left k.
    nothing_settled left c.args.unsettled.now c.args.objects.now c.args.actor (sym c.of.ensures ∙ none_is c.of.result c.in_default.not-Some) k
