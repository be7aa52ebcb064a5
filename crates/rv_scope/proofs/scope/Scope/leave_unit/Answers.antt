use Rattle.std.proofs.Common.{◌∙◌, ap}
use Rattle.rv_scope.specs.Scope.{ScopeView, within_unit}
use Rattle.rv_scope.specs.DeclarationUses.{with_members}
use Rattle.rv_scope.proofs.BodyRegions.{members}
use Rattle.rv_scope.proofs.scope.Scope.leave_unit.Goals as goal

pub returns : goal.returns
returns c = λ unit scope began.
    c.set_current.ensures ∙ ap (λ (x : ScopeView). record x { current = c.args.around })
    (c.leave.ensures (within_unit unit.name.at scope) (with_members unit scope).innermost
    (began ∙ ap (λ (x : ScopeView). within_unit unit.name.at x) (members unit scope)))
