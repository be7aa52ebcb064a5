-- The tree that an expression of the code stands for.
use Rattle.std.specs.Prelude.{List, map}
use Rattle.rv_tree.specs.Expressions as t
use Rattle.rv_tree.specs.NameView.{identifier_view, name_view}
use Rattle.rv_tree.specs.declared.expression.Factor.{Factor, fold-Factor}
use Rattle.rv_tree.specs.declared.expression.Term.{Term, fold-Term}
use Rattle.rv_tree.specs.declared.expression.RangeConstraint.{RangeConstraint}
use Rattle.rv_tree.specs.declared.expression.Expression.{Expression, fold-Expression}
use Rattle.rv_tree.specs.declared.expression.Expression.TheOpen.{Expression-F, Factor-F, Term-F}

abbrev pub expression_step : Expression-F t.Expression t.Factor t.Term → t.Expression
expression_step (Expression-F.Literal at value) = t.literal at value
expression_step (Expression-F.Name n) = t.name (name_view n)
expression_step (Expression-F.Attribute n i) = t.attribute (name_view n) (identifier_view i)
expression_step (Expression-F.Call n es) = t.call (name_view n) (t.expressions_of es.items)
expression_step (Expression-F.Parenthesized at e) = t.parenthesized at e.value
expression_step (Expression-F.Highest at op e) = t.highest at op e.value
expression_step (Expression-F.Product e fs) = t.product e.value (t.factors_of fs.items)
expression_step (Expression-F.Signed at op e) = t.signed at op e.value
expression_step (Expression-F.Sum e ts) = t.sum e.value (t.terms_of ts.items)
expression_step (Expression-F.Relation e op f) = t.relation e.value op f.value
expression_step (Expression-F.Logical op e es) = t.logical op e.value (t.expressions_of es.items)

abbrev pub factor_step : Factor-F t.Expression t.Factor t.Term → t.Factor
factor_step f = record { operator = f.operator; operand = f.operand }

abbrev pub term_step : Term-F t.Expression t.Factor t.Term → t.Term
term_step t = record { operator = t.operator; operand = t.operand }

abbrev pub expression_view : Expression → t.Expression
expression_view = fold-Expression t.Expression t.Factor t.Term expression_step factor_step term_step

abbrev pub expressions_view : List Expression → List t.Expression
expressions_view = map expression_view

abbrev pub factor_view : Factor → t.Factor
factor_view = fold-Factor t.Expression t.Factor t.Term expression_step factor_step term_step

abbrev pub factors_view : List Factor → List t.Factor
factors_view = map factor_view

abbrev pub term_view : Term → t.Term
term_view = fold-Term t.Expression t.Factor t.Term expression_step factor_step term_step

abbrev pub terms_view : List Term → List t.Term
terms_view = map term_view

abbrev pub range_view : RangeConstraint → t.RangeConstraint
range_view r = record { at = r.at; low = expression_view r.low; high = expression_view r.high }
