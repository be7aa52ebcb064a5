use Rattle.std.proofs.Common.{◌∙◌, ap, ℕ, Option}
use Rattle.rv_tree.specs.DeclarationView.{protected_unit_view}
use Rattle.rv_names.proofs.unit.in_unit.Goals as goal

pub returns-clause-scope : goal.returns-clause-scope
returns-clause-scope c =
    c.leave_unit.ensures (protected_unit_view c.args.unit.now) c.args.scope.now (c.in_ok-operation_bodies.ensures.scope ∙ c.in_ok-around.ensures.scope)
    ∙ ap (λ (x : Option ℕ). record c.args.scope.now { current = x }) c.in_ok-around.ensures.around
