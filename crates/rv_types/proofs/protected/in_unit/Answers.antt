use Rattle.std.proofs.Common.{◌∙◌, ap, ℕ, Option}
use Rattle.rv_tree.specs.DeclarationView.{protected_unit_view}
use Rattle.rv_types.proofs.protected.in_unit.Goals as goal

pub returns-clause-scope : goal.returns-clause-scope
returns-clause-scope c =
    c.leave_unit.ensures (protected_unit_view c.args.unit.now) c.args.around (c.in_ok-left.ensures.scope ∙ c.in_ok-outer.ensures.scope)
    ∙ ap (λ (x : Option ℕ). record c.args.around { current = x }) c.in_ok-outer.ensures.around
