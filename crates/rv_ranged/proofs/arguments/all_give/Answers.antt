use Rattle.std.proofs.Common.{◌∙◌, List, ap, sym}
use Rattle.rv_code.specs.declared.expression.Expression.{Expression}
use Rattle.rv_code.specs.ExpressionView.{expressions_view}
use Rattle.rv_ranged.specs.Ranged.{all_give, given_ranges}
use Rattle.rv_ranged.proofs.Ends.{given_end}
use Rattle.rv_ranged.proofs.arguments.all_give.Goals as goal

pub returns : goal.returns
returns c =
    c.is_empty.ensures
    ∙ (sym (given_end c.args.parameters.now c.loop-parameter.parameter-index c.loop-parameter.left.now c.loop-parameter-test.false)
    ∙ (c.loop-parameter.invariant ∙ ap (λ (es : List Expression). all_give (given_ranges c.args.parameters.now) (expressions_view es)) c.as_slice-left.ensures.value))
