use Rattle.std.proofs.Common.{rules, tests, ◌∙◌}
use Rattle.std.proofs.lemmas.Iterator.{YieldsList-from_slice}
use Rattle.std.proofs.lemmas.Iterator.Search.{any_from_yields_List}
use Rattle.rv_tree.specs.DeclarationView.{element_view}
use Rattle.rv_restrict.specs.Scope.{is_component}
use Rattle.rv_restrict.proofs.Viewed.{any_viewed}
use Rattle.rv_restrict.proofs.declared.is_among_components.Goals as goal

pub returns : goal.returns
returns c =
    any_from_yields_List (λ e. is_component c.args.name.now (element_view e)) _ _ _ c.any.ensures.ran (YieldsList-from_slice c.args.list.now.items cc) (λ x b q k. search (rules, tests))
    ∙ any_viewed (λ e. is_component c.args.name.now e) element_view c.args.list.now.items
