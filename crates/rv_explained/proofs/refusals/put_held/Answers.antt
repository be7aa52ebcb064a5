use Rattle.std.proofs.Common.{List, ◌++◌, ap, ◌∙◌}
use Rattle.std.proofs.lemmas.Result.{on_ok_weaker}
use Rattle.std.specs.Prelude.{string_bytes}
use Rattle.rv_lasting.specs.declared.track.Begun.{Begun}
use Rattle.rv_shape.specs.Shape.{Shape}
use Rattle.rv_explained.specs.Explanations.{held_text}
use Rattle.rv_explained.proofs.refusals.put_held.Goals as goal

pub returns : goal.returns
returns c =
    let h = c.args.host.now in
    let old = string_bytes c.args.text.now in
    on_ok_weaker c.put_bodies.result
    (λ put keeps. put ∙ ap (λ (ss : List Shape). old ++ held_text ss c.args.actor c.bodies.result.now) c.catalogue.ensures
    ∙ ap (λ (xs : List Begun). old ++ held_text h.shapes c.args.actor xs) (c.bodies.ensures ∙ keeps.bodies)) c.put_bodies.ensures
