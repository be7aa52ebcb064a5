use Rattle.std.proofs.Common.{◌∙◌, sym, ap, List}
use Rattle.std.specs.Prelude.{slice_get}
use Rattle.rv_prio.specs.declared.held.Held.{Held}
use Rattle.rv_event.specs.Past.{under_way}
use Rattle.rv_present.proofs.Holding.{inner_body, no_inner}
use Rattle.rv_present.proofs.present.Present.innermost.Goals as goal

pub returns-in-Some : goal.returns-in-Some
returns-in-Some c = λ h k.
    sym (inner_body h.shapes c.args.actor (under_way h.shapes h.past) c.in-Some.held (ap (λ (hs : List Held). slice_get hs 0) (sym (c.of.ensures ∙ k.bodies_are.stacks c.args.actor)) ∙ sym c.innermost.ensures ∙ c.in-Some.is))

pub returns-in-None : goal.returns-in-None
returns-in-None c = λ h k.
    sym (no_inner h.shapes c.args.actor (under_way h.shapes h.past) (ap (λ (hs : List Held). slice_get hs 0) (sym (c.of.ensures ∙ k.bodies_are.stacks c.args.actor)) ∙ sym c.innermost.ensures ∙ c.in-None.is))
