use Rattle.std.proofs.Common.{◌∙◌, ap, List, ℕ, map}
use Rattle.std.specs.Prelude.{nat_lt}
use Rattle.rv_prio.specs.Priority.{active_priority, greatest}
use Rattle.rv_prio.specs.declared.held.Held.{Held}
use Rattle.rv_shape.specs.Catalogue.{ceiling}
use Rattle.rv_event.specs.Past.{held}
use Rattle.rv_event.specs.declared.entry.Body.{Body}
use Rattle.rv_present.proofs.Holding.{active_is}
use Rattle.rv_present.proofs.present.Present.is_above.Goals as goal

pub returns : goal.returns
returns c = λ h k own.
    let a = c.args.actor in
    c.above_ceiling.ensures
    ∙ ap (λ (hs : List Held). nat_lt c.args.ceiling (active_priority c.args.base hs)) (c.of.ensures ∙ k.bodies_are.stacks a)
    ∙ ap (λ (n : ℕ). nat_lt c.args.ceiling n) (active_is h.shapes c.args.base (held h.shapes a h.past))
    ∙ ap (λ (n : ℕ). nat_lt c.args.ceiling (greatest n (map (λ (b : Body). ceiling h.shapes b.object) (held h.shapes a h.past)))) own
