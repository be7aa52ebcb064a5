use Rattle.std.proofs.Common.{◌≡◌, ◌∙◌, Some, None}
use Rattle.rv_tree.specs.NameView.{identifier_view}
use Rattle.rv_scope.specs.declared.declared.Declared.TheVariants as d
use Rattle.rv_scope.proofs.Scopes.{left, declares_two}
use Rattle.rv_names.proofs.statement.+statement.Goals as goal

pub turns-returns-in_ok-statements-in-For-clause-scope : goal.turns-returns-in_ok-statements-in-For-clause-scope
turns-returns-in_ok-statements-in-For-clause-scope t c =
    left c.args.scope.now c.enter.new.self c.statements-in-For.new.scope c.leave.new.self c.leave.ensures c.in_ok-enter-in-For.ensures
    (declares_two c.enter.new.self c.hide.new.scope c.statements-in-For.new.scope (identifier_view c.in-For.parameter) (identifier_view c.in-For.parameter)
    None (Some (d.LoopParameter c.in-For.parameter.at)) c.in_ok-hide-in-For.ensures
    (c.in_ok-statements-in-For.ensures.scope ∙ c.in_ok-declare-in-For.ensures))
