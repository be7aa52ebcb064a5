use Rattle.std.proofs.Common.{◌∙◌, ap}
use Rattle.rv_tree.specs.NameView.{identifiers_view, name_view}
use Rattle.rv_scope.specs.Scope.{ScopeView, declaring_all}
use Rattle.rv_scope.specs.Visible.{visible}
use Rattle.rv_scope.specs.DeclarationUses.{object_form}
use Rattle.rv_scope.proofs.declaration.variable.Goals as goal

pub returns : goal.returns
returns c =
    c.in_ok-declare_variables.ensures
    ∙ ap (λ (s : ScopeView). declaring_all (object_form (visible s (name_view c.args.mark.now))) (identifiers_view c.args.names.now.items) s) c.in_ok-hide_all.ensures.scope
