use Rattle.std.proofs.Common.{◌∙◌, ap}
use Rattle.rv_tree.specs.NameView.{identifiers_view, name_view}
use Rattle.rv_scope.specs.Scope.{ScopeView, declaring_all}
use Rattle.rv_scope.specs.Visible.{visible}
use Rattle.rv_scope.specs.DeclarationUses.{object_form}
use Rattle.rv_outline.specs.declared.outline.ObjectType.{ObjectType}
use Rattle.rv_outline.specs.Drafts.{adding_objects}
use Rattle.rv_outline.specs.Declarations.{object_type}
use Rattle.rv_outline.proofs.declaration.objects.Goals as goal

pub returns-clause-draft : goal.returns-clause-draft
returns-clause-draft c =
    c.in_ok-add_objects.ensures
    ∙ ap (λ (of : ObjectType). adding_objects c.args.is_visible of (identifiers_view c.args.names.now.items) c.args.draft.now)
    (c.object_type-of.ensures ∙ ap object_type c.visible-found.ensures
    ∙ ap (λ (s : ScopeView). object_type (visible s (name_view c.args.mark.now))) c.in_ok-hide_all.ensures.scope)

pub returns-clause-scope : goal.returns-clause-scope
returns-clause-scope c =
    c.in_ok-declare_variables.ensures
    ∙ ap (λ (s : ScopeView). declaring_all (object_form (visible s (name_view c.args.mark.now))) (identifiers_view c.args.names.now.items) s) c.in_ok-hide_all.ensures.scope
