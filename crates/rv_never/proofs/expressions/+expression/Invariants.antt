use Rattle.std.proofs.Common.{◌≡◌, ◌++◌, drop}
use Rattle.rv_code.specs.ExpressionView.{expressions_view, links_view}
use Rattle.rv_never.specs.Written.{of_expressions, of_links}
use Rattle.rv_never.proofs.expressions.+expression.Given as goal

-- what is there, and then what the others call
abbrev pub invariant-add_expressions-loop-e : goal.invariant-add_expressions-loop-e
invariant-add_expressions-loop-e l =
    l.calls.items ++ of_expressions (expressions_view (drop l.e-index l.e-items))
    ≡ l.initial.calls.items ++ of_expressions (expressions_view l.e-items)

abbrev pub invariant-add_links-loop-link : goal.invariant-add_links-loop-link
invariant-add_links-loop-link l =
    l.calls.items ++ of_links (links_view (drop l.link-index l.link-items))
    ≡ l.initial.calls.items ++ of_links (links_view l.link-items)
