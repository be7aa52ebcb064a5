use Rattle.std.proofs.Common.{rules, ◌∷◌, [], ◌∙◌, ap, w64, SFits}
use Rattle.std.proofs.lemmas.Int.{to_z-of_z}
use Rattle.std.specs.Prelude.{ℤ}
use Rattle.embedding.proofs.Calling.{waited_for, alone}
use Rattle.embedding.proofs.sensor.send.Goals as goal

pub returns-in-Returned-clause-sample : goal.returns-in-Returned-clause-sample
returns-in-Returned-clause-sample g c =
    let fits : SFits w64 c.args.number = search rules in
    waited_for c.args.wiring c.args.number c.values_of.result c.in-Returned.field-0 c.call-reached.result c.suspend.result c.args.port.now c.call-reached.new.self c.suspend.new.self
    (c.values_of.ensures ∙ ap (λ (z : ℤ). z ∷ []) (to_z-of_z w64 c.args.number fits)) c.in-Returned.is c.call-reached.ensures.performed c.suspend.ensures.performed

pub returns-in_default : goal.returns-in_default
returns-in_default g c =
    let fits : SFits w64 c.args.number = search rules in record {
      sample = alone c.args.wiring c.args.number c.values_of.result c.call-reached.result c.args.port.now c.call-reached.new.self
          (c.values_of.ensures ∙ ap (λ (z : ℤ). z ∷ []) (to_z-of_z w64 c.args.number fits)) c.in_default.not-Returned c.call-reached.ensures.performed;
      stays = (c.call-reached.ensures.stays.turn, c.call-reached.ensures.stays.actor);
    }
