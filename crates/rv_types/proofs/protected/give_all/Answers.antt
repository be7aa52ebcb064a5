use Rattle.std.proofs.Common.{rules, ◌≡◌, ◌+◌, ◌∙◌, ap, sym, true, drop, get_or}
use Rattle.std.proofs.lemmas.List.{drop_more}
use Rattle.std.specs.Prelude.{nat_lt}
use Rattle.rv_code.specs.BodyView.{list_at, unit_view}
use Rattle.rv_outline.specs.declared.outline.ObjectType.TheVariants.{Protected}
use Rattle.rv_types.specs.BodiesOf.{objects_compiled}
use Rattle.rv_types.proofs.Sharing.{one_more}
use Rattle.rv_types.proofs.protected.give_all.Goals as goal

pub loop-object-preserved : goal.loop-object-preserved
loop-object-preserved c =
    let small : nat_lt c.loop-object.index 4294967296 ≡ true = search rules in
    let objects = c.args.objects.now in let at = c.loop-object.object-index in
    record {
      lists = c.in_ok-give_perhaps.ensures.lists ∙ c.loop-object.invariant.lists;
      code = λ same e.
          sym (one_more same c.args.number c.loop-object.index (get_or objects at (Protected 0)) (drop (at + 1) objects)
          (unit_view c.loop-object.compiled) (unit_view c.give_perhaps.new.compiled) small
          (c.in_ok-give_perhaps.ensures.code same (ap (λ lists. list_at lists.items c.args.list) c.loop-object.invariant.lists ∙ e)))
          ∙ (ap (λ more. objects_compiled same c.args.number c.loop-object.index more (unit_view c.loop-object.compiled))
          (sym (drop_more objects at (Protected 0) c.loop-object-test.true))
          ∙ c.loop-object.invariant.code same e);
    }
