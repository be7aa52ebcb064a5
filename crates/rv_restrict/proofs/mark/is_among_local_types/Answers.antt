use Rattle.std.proofs.Common.{rules, tests, ◌∙◌}
use Rattle.std.proofs.lemmas.Iterator.{YieldsList-from_slice}
use Rattle.std.proofs.lemmas.Iterator.Search.{any_from_yields_List}
use Rattle.rv_tree.specs.BodyView.{local_view}
use Rattle.rv_restrict.specs.Scope.{is_local_type}
use Rattle.rv_restrict.proofs.Viewed.{any_viewed}
use Rattle.rv_restrict.proofs.mark.is_among_local_types.Goals as goal

pub returns : goal.returns
returns c =
    any_from_yields_List (λ one. is_local_type c.args.at c.args.name.now (local_view one)) _ _ _ c.any.ensures.ran (YieldsList-from_slice c.args.locals.now.items cc) (λ x b q k. search (rules, tests))
    ∙ any_viewed (λ one. is_local_type c.args.at c.args.name.now one) local_view c.args.locals.now.items
