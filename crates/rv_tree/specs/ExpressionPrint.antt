-- How expressions are printed.
use Rattle.rv_lex.specs.declared.kind.Kind.TheVariants as k
use Rattle.rv_tree.specs.declared.expression.LogicalOperator.{LogicalOperator}
use Rattle.rv_tree.specs.declared.expression.LogicalOperator.TheVariants as logic
use Rattle.rv_tree.specs.Onto.{Onto, ◌▷◌, kind_onto, number_onto}
use Rattle.rv_tree.specs.NamePrint.{identifier_onto, name_onto}
use Rattle.rv_tree.specs.Expressions.{Expression, literal, name, attribute, call, parenthesized, highest, product, signed, sum, relation, logical, Expressions, no_expressions, and_expression, Factors, no_factors, and_factor, Terms, no_terms, and_term, RangeConstraint}
use Rattle.rv_tree.specs.ExpressionGrammar.{relational, adding, multiplying, highest_word}

abbrev pub logical_onto : LogicalOperator → Onto
logical_onto logic.And = kind_onto k.And
logical_onto logic.Or = kind_onto k.Or
logical_onto logic.Xor = kind_onto k.Xor
logical_onto logic.AndThen = kind_onto k.And ▷ kind_onto k.Then
logical_onto logic.OrElse = kind_onto k.Or ▷ kind_onto k.Else

abbrev mutual
  pub expression_onto : Expression → Onto
  expression_onto (literal at value) out = number_onto value out
  expression_onto (name n) out = name_onto n out
  expression_onto (attribute n i) out = identifier_onto i (kind_onto k.Apostrophe (name_onto n out))
  expression_onto (call n es) out = arguments_onto es (name_onto n out)
  expression_onto (parenthesized at e) out = kind_onto k.RightParenthesis (expression_onto e (kind_onto k.LeftParenthesis out))
  expression_onto (highest at op e) out = expression_onto e (kind_onto (highest_word op) out)
  expression_onto (product e fs) out = factors_onto fs (expression_onto e out)
  expression_onto (signed at op e) out = expression_onto e (kind_onto (adding op) out)
  expression_onto (sum e ts) out = terms_onto ts (expression_onto e out)
  expression_onto (relation e op f) out = expression_onto f (kind_onto (relational op) (expression_onto e out))
  expression_onto (logical op e es) out = relations_onto op es (expression_onto e out)

  -- nothing where there are no arguments
  pub arguments_onto : Expressions → Onto
  arguments_onto no_expressions out = out
  arguments_onto (and_expression e es) out =
      kind_onto k.RightParenthesis (more_arguments_onto es (expression_onto e (kind_onto k.LeftParenthesis out)))

  pub more_arguments_onto : Expressions → Onto
  more_arguments_onto no_expressions out = out
  more_arguments_onto (and_expression e es) out = more_arguments_onto es (expression_onto e (kind_onto k.Comma out))

  pub factors_onto : Factors → Onto
  factors_onto no_factors out = out
  factors_onto (and_factor op e fs) out = factors_onto fs (expression_onto e (kind_onto (multiplying op) out))

  pub terms_onto : Terms → Onto
  terms_onto no_terms out = out
  terms_onto (and_term op e ts) out = terms_onto ts (expression_onto e (kind_onto (adding op) out))

  pub relations_onto : LogicalOperator → Expressions → Onto
  relations_onto op no_expressions out = out
  relations_onto op (and_expression e es) out = relations_onto op es (expression_onto e (logical_onto op out))

abbrev pub range_onto : RangeConstraint → Onto
range_onto r = kind_onto k.Range ▷ expression_onto r.low ▷ kind_onto k.DoubleDot ▷ expression_onto r.high
