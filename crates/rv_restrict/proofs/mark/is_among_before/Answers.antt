use Rattle.std.proofs.Common.{rules, tests, ◌∙◌}
use Rattle.std.proofs.lemmas.Iterator.{YieldsList-from_slice}
use Rattle.std.proofs.lemmas.Iterator.Search.{any_from_yields_List}
use Rattle.std.specs.Prelude.{nat_lt, ◌&&◌}
use Rattle.rv_text.specs.Names.{is_same_name}
use Rattle.rv_tree.specs.NameView.{identifier_view}
use Rattle.rv_restrict.proofs.Viewed.{any_viewed}
use Rattle.rv_restrict.proofs.mark.is_among_before.Goals as goal

pub returns : goal.returns
returns c =
    any_from_yields_List (λ i. nat_lt (identifier_view i).at c.args.at && is_same_name (identifier_view i).text c.args.name.now) _ _ _ c.any.ensures.ran (YieldsList-from_slice c.args.names.now cc) (λ x b q k. search (rules, tests))
    ∙ any_viewed (λ i. nat_lt i.at c.args.at && is_same_name i.text c.args.name.now) identifier_view c.args.names.now
