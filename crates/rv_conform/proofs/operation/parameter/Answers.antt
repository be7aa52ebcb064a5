use Rattle.std.proofs.Common.{◌∙◌, ap, map, ◌++◌}
use Rattle.rv_tree.specs.NameView.{identifiers_view, name_view}
use Rattle.rv_scope.specs.Scope.{ScopeView}
use Rattle.rv_conform.specs.declared.mark.Mark.{Mark}
use Rattle.rv_conform.specs.Profiles.{mark_at, formal_of}
use Rattle.rv_conform.proofs.operation.parameter.Goals as goal

pub returns-clause-done : goal.returns-clause-done
returns-clause-done c =
    c.in_ok-push_formals.ensures
    ∙ ap (λ (m : Mark). c.args.done.now.items ++ map (formal_of c.args.part.now.mode m) (identifiers_view c.args.part.now.names.items))
    (c.of-mark.ensures ∙ ap (λ (s : ScopeView). mark_at c.args.statics.now s (name_view c.args.part.now.mark)) c.in_ok-hide_all.ensures.scope)
