use Rattle.std.proofs.Common.{rules, tests, ◌∙◌}
use Rattle.std.proofs.lemmas.Iterator.{YieldsList-from_slice}
use Rattle.std.proofs.lemmas.Iterator.Search.{any_from_yields_List}
use Rattle.rv_tree.specs.DeclarationView.{parameter_view}
use Rattle.rv_restrict.specs.Scope.{is_among}
use Rattle.rv_restrict.proofs.Viewed.{any_viewed}
use Rattle.rv_restrict.proofs.declared.is_parameter.Goals as goal

pub returns : goal.returns
returns c =
    any_from_yields_List (λ p. is_among c.args.name.now (parameter_view p).names) _ _ _ c.any.ensures.ran (YieldsList-from_slice c.args.parameters.now cc) (λ x b q k. search (rules, tests))
    ∙ any_viewed (λ p. is_among c.args.name.now p.names) parameter_view c.args.parameters.now
