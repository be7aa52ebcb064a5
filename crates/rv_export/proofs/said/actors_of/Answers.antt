use Rattle.std.proofs.Common.{◌≡◌, ℕ, List, sym, subst}
use Rattle.std.specs.Prelude.{String, string_bytes}
use Rattle.std.specs.Global.{Global}
use Rattle.rv_shape.specs.Catalogue.{who}
use Rattle.rv_shape.specs.Printed.{actor_text}
use Rattle.rv_export.specs.Said.{AreActors}
use Rattle.rv_export.proofs.Finding.{each_more, long_more}
use Rattle.rv_export.proofs.said.actors_of.Goals as goal

pub loop-actor-preserved : goal.loop-actor-preserved
loop-actor-preserved c =
    let shapes = c.args.catalogue.now in
    let before = c.loop-actor.names.items in
    record {
      are = subst (λ (xs : List (String Global)). AreActors xs shapes) (sym c.in_ok-push.ensures.items)
          (each_more (λ (n : ℕ) (x : (String Global)). string_bytes x ≡ actor_text (who shapes n)) before c.in_ok-name_of.field-0 c.loop-actor.actor c.loop-actor.invariant.are c.loop-actor.invariant.long c.in_ok-name_of.ensures);
      long = long_more before c.push.new.self.items c.in_ok-name_of.field-0 c.loop-actor.actor c.in_ok-push.ensures.items c.loop-actor.invariant.long;
    }
