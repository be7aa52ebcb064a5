use Rattle.std.proofs.Common.{ap, ◌∙◌}
use Rattle.std.proofs.lemmas.Result.{on_ok_weaker}
use Rattle.std.specs.Prelude.{option_copied, string_bytes}
use Rattle.rv_shape.specs.Readers.{target_of}
use Rattle.rv_rights.specs.declared.wish.Wish.TheInside.{Inside}
use Rattle.rv_rights.specs.Rights.{WishText}
use Rattle.rv_rights.proofs.Keeping.{taken_put}
use Rattle.rv_rights.proofs.listing.put_rights_of.Goals as goal

pub returns-then-takes_unit : goal.returns-then-takes_unit
returns-then-takes_unit c =
    on_ok_weaker c.put_grants_of.result
    (λ put. taken_put c.args.wish.now _ _ c.takes_unit.result c.args.list.now (option_copied c.args.other) (target_of c.args.callee.now) c.args.caller.now (string_bytes c.args.text.now) (string_bytes c.put_grants_of.new.text)
    (ap (λ (i : Inside). i.filter.by) c.wish-inside.view_is ∙ ap (λ (w : WishText). w.filter.by) c.wish.view_is) (ap (λ (i : Inside). i.as_json) c.wish-inside.view_is ∙ ap (λ (w : WishText). w.as_json) c.wish.view_is) c.takes_unit.ensures c.if-takes_unit.true put) c.put_grants_of.ensures
