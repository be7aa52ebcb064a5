use Rattle.std.proofs.Common.{◌≡◌, true, rules, tests, ap, sym, ◌∙◌, ℕ, List, ◌∷◌, subst}
use Rattle.rv_port.specs.Actors.{is_performer}
use Rattle.rv_port.specs.Controls.{listed, IsControl}
use Rattle.rv_port.specs.Traces.{Passing}
use Rattle.rv_port.proofs.Actors.{performer_some}
use Rattle.rv_port.proofs.Operators.{not_given}
use Rattle.rv_port.proofs.Controls.{port_kept, port_handles, port_limited, port_fits}
use Rattle.rv_port.proofs.control.Control.port.Goals as goal

pub split-requires-clause-actor : goal.split-requires-clause-actor
split-requires-clause-actor c = let is : is_performer c.self.inside.catalogue c.args.actor ≡ true = search (rules, tests) in
    (performer_some c.self.inside.catalogue c.args.actor is, not_given _ _ (ap (listed c.args.actor) (c.self.invariant.given_is ∙ sym c.deref.ensures.value) ∙ (sym c.is_listed.ensures ∙ c.if-is_listed.false)))

pub new-requires-clause-handles : goal.new-requires-clause-handles
new-requires-clause-handles c = let is : is_performer c.self.inside.catalogue c.args.actor ≡ true = search (rules, tests) in
    port_handles _ _ _ _ _ _ _ c.args.actor _ c.self.invariant c.in-Ok-split.ensures.ok is

pub invariant_of-self-in-Ok-split : goal.invariant_of-self-in-Ok-split
invariant_of-self-in-Ok-split c =
    subst (λ (l : List ℕ). IsControl c.self.inside.turn c.split.new.self l c.self.inside.catalogue c.self.inside.lists) (sym (c.put_first.ensures ∙ ap (λ (l : List ℕ). c.args.actor ∷ l) c.reserve.ensures.items))
    (port_kept _ _ _ _ _ _ _ c.args.actor _ c.self.invariant c.in-Ok-split.ensures.ok)

pub new-requires-clause-limited : goal.new-requires-clause-limited
new-requires-clause-limited c = port_limited _ _ _ _ _ _ _ c.args.actor _ c.self.invariant c.in-Ok-split.ensures.ok

pub new-requires-clause-fits : goal.new-requires-clause-fits
new-requires-clause-fits c = port_fits _ _ _ _ _ _ _ c.args.actor _ c.self.invariant c.in-Ok-split.ensures.ok

pub invariant_of-self-in-Err-NoMemory : goal.invariant_of-self-in-Err-NoMemory
invariant_of-self-in-Err-NoMemory c =
    subst (λ (z : Passing × List ℕ). IsControl c.self.inside.turn z.0 z.1 c.self.inside.catalogue c.self.inside.lists) (λ i. (sym c.in-Err-NoMemory.ensures.err i, sym c.reserve.ensures.items i)) c.self.invariant
