-- A printed expression is that expression.
use Rattle.std.proofs.Common.{◌≡◌, ◌≤◌, true, refl}
use Rattle.rv_lex.specs.declared.kind.Kind.TheVariants as k
use Rattle.rv_lex.proofs.Spellings.{has_spelling}
use Rattle.rv_tree.specs.Operators.{LogicalOperator, RelationalOperator, AddingOperator, MultiplyingOperator, HighestOperator}
use Rattle.rv_tree.specs.declared.expression.LogicalOperator.TheVariants as logic
use Rattle.rv_tree.specs.declared.expression.RelationalOperator.TheVariants as relates
use Rattle.rv_tree.specs.declared.expression.AddingOperator.TheVariants as adds
use Rattle.rv_tree.specs.declared.expression.MultiplyingOperator.TheVariants as multiplies
use Rattle.rv_tree.specs.declared.expression.HighestOperator.TheVariants as before
use Rattle.rv_tree.specs.Onto.{◌▷◌, kind_onto}
use Rattle.rv_tree.specs.Expressions.{Expression, literal, name, attribute, call, parenthesized, highest, product, signed, sum, relation, logical, Expressions, no_expressions, and_expression, Factors, no_factors, and_factor, Terms, no_terms, and_term, RangeConstraint}
use Rattle.rv_tree.specs.ExpressionGrammar.{IsExpression, AreArguments, MoreArguments, MoreFactors, MoreTerms, MoreRelations, IsLogical, IsRange, relational, adding, multiplying, highest_word, rule_of, a_primary, a_factor, a_term, a_signed_term, a_simple_expression, a_relation}
use Rattle.rv_tree.specs.ExpressionPrint.{expression_onto, arguments_onto, more_arguments_onto, factors_onto, terms_onto, relations_onto, logical_onto, range_onto}
use Rattle.rv_tree.proofs.Phrased.{Prints, is_prints, is_at_prints, seq_prints, when_prints, nothing_prints, never_prints}
use Rattle.rv_tree.proofs.PrintsName.{identifier_prints, literal_prints, name_prints}

pub logical_prints : (op : LogicalOperator) → Prints (IsLogical op) (logical_onto op)
logical_prints logic.And = is_prints k.And refl
logical_prints logic.Or = is_prints k.Or refl
logical_prints logic.Xor = is_prints k.Xor refl
logical_prints logic.AndThen = seq_prints (is_prints k.And refl) (is_prints k.Then refl)
logical_prints logic.OrElse = seq_prints (is_prints k.Or refl) (is_prints k.Else refl)

relational_spelled : (op : RelationalOperator) → has_spelling (relational op) ≡ true
relational_spelled relates.Equal = refl
relational_spelled relates.NotEqual = refl
relational_spelled relates.Less = refl
relational_spelled relates.LessEqual = refl
relational_spelled relates.Greater = refl
relational_spelled relates.GreaterEqual = refl

adding_spelled : (op : AddingOperator) → has_spelling (adding op) ≡ true
adding_spelled adds.Plus = refl
adding_spelled adds.Minus = refl

multiplying_spelled : (op : MultiplyingOperator) → has_spelling (multiplying op) ≡ true
multiplying_spelled multiplies.Times = refl
multiplying_spelled multiplies.Divide = refl
multiplying_spelled multiplies.Mod = refl
multiplying_spelled multiplies.Rem = refl

highest_spelled : (op : HighestOperator) → has_spelling (highest_word op) ≡ true
highest_spelled before.Abs = refl
highest_spelled before.Not = refl

mutual
  pub expression_prints : (e : Expression) → Prints (IsExpression e) (expression_onto e)
  expression_prints (literal at value) = literal_prints at value
  expression_prints (name n) = name_prints n
  expression_prints (attribute n i) = seq_prints (name_prints n) (seq_prints (is_prints k.Apostrophe refl) (identifier_prints i))
  expression_prints (call n es) = seq_prints (name_prints n) (arguments_print es)
  expression_prints (parenthesized at e) = seq_prints (is_at_prints k.LeftParenthesis at refl) (seq_prints (expression_prints e) (is_prints k.RightParenthesis refl))
  expression_prints (highest at op e) = seq_prints (is_at_prints (highest_word op) at (highest_spelled op)) (when_prints (rule_of e ≤ a_primary) (expression_prints e))
  expression_prints (product e no_factors) = never_prints (expression_onto (product e no_factors))
  expression_prints (product e (and_factor op f fs)) = seq_prints (when_prints (rule_of e ≤ a_factor) (expression_prints e)) (factors_print (and_factor op f fs))
  expression_prints (signed at op e) = seq_prints (is_at_prints (adding op) at (adding_spelled op)) (when_prints (rule_of e ≤ a_term) (expression_prints e))
  expression_prints (sum e no_terms) = never_prints (expression_onto (sum e no_terms))
  expression_prints (sum e (and_term op t ts)) = seq_prints (when_prints (rule_of e ≤ a_signed_term) (expression_prints e)) (terms_print (and_term op t ts))
  expression_prints (relation e op f) = seq_prints (when_prints (rule_of e ≤ a_simple_expression) (expression_prints e)) (seq_prints (is_prints (relational op) (relational_spelled op)) (when_prints (rule_of f ≤ a_simple_expression) (expression_prints f)))
  expression_prints (logical op e no_expressions) = never_prints (expression_onto (logical op e no_expressions))
  expression_prints (logical op e (and_expression f fs)) = seq_prints (when_prints (rule_of e ≤ a_relation) (expression_prints e)) (relations_print op (and_expression f fs))

  pub arguments_print : (es : Expressions) → Prints (AreArguments es) (arguments_onto es)
  arguments_print no_expressions = never_prints (arguments_onto no_expressions)
  arguments_print (and_expression e es) = seq_prints (is_prints k.LeftParenthesis refl) (seq_prints (expression_prints e) (more_arguments_print es))

  more_arguments_print : (es : Expressions) → Prints (MoreArguments es) (more_arguments_onto es ▷ kind_onto k.RightParenthesis)
  more_arguments_print no_expressions = is_prints k.RightParenthesis refl
  more_arguments_print (and_expression e es) = seq_prints (is_prints k.Comma refl) (seq_prints (expression_prints e) (more_arguments_print es))

  factors_print : (fs : Factors) → Prints (MoreFactors fs) (factors_onto fs)
  factors_print no_factors = nothing_prints
  factors_print (and_factor op e fs) = seq_prints (is_prints (multiplying op) (multiplying_spelled op)) (seq_prints (when_prints (rule_of e ≤ a_factor) (expression_prints e)) (factors_print fs))

  terms_print : (ts : Terms) → Prints (MoreTerms ts) (terms_onto ts)
  terms_print no_terms = nothing_prints
  terms_print (and_term op e ts) = seq_prints (is_prints (adding op) (adding_spelled op)) (seq_prints (when_prints (rule_of e ≤ a_term) (expression_prints e)) (terms_print ts))

  relations_print : (op : LogicalOperator) (es : Expressions) → Prints (MoreRelations op es) (relations_onto op es)
  relations_print op no_expressions = nothing_prints
  relations_print op (and_expression e es) = seq_prints (logical_prints op) (seq_prints (when_prints (rule_of e ≤ a_relation) (expression_prints e)) (relations_print op es))

pub range_prints : (r : RangeConstraint) → Prints (IsRange r) (range_onto r)
range_prints r = seq_prints (is_at_prints k.Range r.at refl) (seq_prints (expression_prints r.low) (seq_prints (is_prints k.DoubleDot refl) (expression_prints r.high)))
