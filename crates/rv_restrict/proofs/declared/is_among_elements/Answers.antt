use Rattle.std.proofs.Common.{rules, tests, ◌∙◌}
use Rattle.std.proofs.lemmas.Iterator.{YieldsList-from_slice}
use Rattle.std.proofs.lemmas.Iterator.Search.{any_from_yields_List}
use Rattle.rv_tree.specs.DeclarationView.{element_view}
use Rattle.rv_tree.specs.DeclaredNames.{element_names}
use Rattle.rv_restrict.specs.Scope.{is_among}
use Rattle.rv_restrict.proofs.Viewed.{any_viewed}
use Rattle.rv_restrict.proofs.declared.is_among_elements.Goals as goal

pub returns : goal.returns
returns c =
    any_from_yields_List (λ e. is_among c.args.name.now (element_names (element_view e))) _ _ _ c.any.ensures.ran (YieldsList-from_slice c.args.list.now.items cc) (λ x b q k. search (rules, tests))
    ∙ any_viewed (λ e. is_among c.args.name.now (element_names e)) element_view c.args.list.now.items
