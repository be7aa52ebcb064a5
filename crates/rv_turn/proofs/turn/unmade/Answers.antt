use Rattle.std.proofs.Common.{sym, ◌∙◌}
use mathlib.Core.Option.{some-injective}
use Rattle.rv_turn.proofs.KeptBySteps.{some_same}
use Rattle.rv_turn.proofs.Acts.{closes_fresh}
use Rattle.rv_turn.proofs.turn.unmade.Goals as goal

pub unreachable-requires : goal.unreachable-requires
unreachable-requires g c = let f = closes_fresh g.C.Counted.history g.C.Counted.about g.C.Counted.actor_of _ _ _ _ _ c.requires.fresh c.close_with-closed.ensures.values.2 in
    c.in_default.not-Some _ (some-injective _ _ (sym c.take-slot.ensures.value ∙ f))

pub returns : goal.returns
returns g c = let f = closes_fresh g.C.Counted.history g.C.Counted.about g.C.Counted.actor_of _ _ _ _ _ c.requires.fresh c.close_with-closed.ensures.values.2 in
    some_same _ _ (sym c.in-Some.is ∙ some-injective _ _ (sym c.take-slot.ensures.value ∙ f))
