use Rattle.std.proofs.Common.{◌∙◌, List, ap, length}
use Rattle.std.specs.List.{filter}
use Rattle.std.proofs.lemmas.List.{length-map}
use Rattle.rv_prio.specs.declared.held.Held.{Held}
use Rattle.rv_event.specs.Past.{under_way}
use Rattle.rv_event.proofs.Matching.{by}
use Rattle.rv_present.specs.Holdings.{held_of}
use Rattle.rv_present.proofs.present.Present.depth.Goals as goal

pub returns : goal.returns
returns c = λ h k.
    let a = c.args.actor in
    c.len.ensures.value ∙ ap (λ (hs : List Held). length hs) (c.of.ensures ∙ k.bodies_are.stacks a) ∙ length-map (filter (by a) (under_way h.shapes h.past)) (held_of h.shapes)
