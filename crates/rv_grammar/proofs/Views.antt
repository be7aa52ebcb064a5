-- What lists of parts stand for, one more.
use Rattle.std.proofs.Common.{◌≡◌, List, [], ◌∷◌, ◌++◌, map, ap, ◌∙◌, ℕ, Vec, Global}
use Rattle.std.proofs.lemmas.List.{map-append}
use Rattle.rv_tree.specs.declared.expression.MultiplyingOperator.{MultiplyingOperator}
use Rattle.rv_tree.specs.declared.expression.AddingOperator.{AddingOperator}
use Rattle.rv_tree.specs.declared.expression.Expression.{Expression}
use Rattle.rv_tree.specs.declared.expression.Factor.{Factor, roll-Factor, fold-roll-Factor}
use Rattle.rv_tree.specs.declared.expression.Term.{Term, roll-Term, fold-roll-Term}
use Rattle.rv_tree.specs.Expressions as t
use Rattle.rv_tree.specs.Statements as s
use Rattle.rv_tree.specs.declared.statement.ElsifPart.{roll-ElsifPart, fold-roll-ElsifPart}
use Rattle.rv_tree.specs.declared.statement.CaseAlternative.{roll-CaseAlternative, fold-roll-CaseAlternative}
use Rattle.rv_tree.specs.declared.statement.Statement.{Statement}
use Rattle.rv_tree.specs.declared.statement.Choice.{Choice}
use Rattle.rv_tree.specs.StatementView.{choice_view, elsif_part_view, alternative_view, statements_view, select_step, statement_step, case_step, elsif_step}
use Rattle.rv_tree.specs.ExpressionView.{expression_view, factor_view, factors_view, term_view, terms_view, expression_step, factor_step, term_step}

pub push_factor_view : (fs : List Factor) (op : MultiplyingOperator) (e : Expression) → factors_view (fs ++ roll-Factor (record { operator = op; operand = e }) ∷ []) ≡ factors_view fs ++ t.factor_by op (expression_view e) ∷ []
push_factor_view fs op e = map-append factor_view fs _ ∙ ap (λ f. factors_view fs ++ f ∷ []) (fold-roll-Factor t.Expression t.Factor t.Term expression_step factor_step term_step (record { operator = op; operand = e }))

pub push_term_view : (ts : List Term) (op : AddingOperator) (e : Expression) → terms_view (ts ++ roll-Term (record { operator = op; operand = e }) ∷ []) ≡ terms_view ts ++ t.term_by op (expression_view e) ∷ []
push_term_view ts op e = map-append term_view ts _ ∙ ap (λ s. terms_view ts ++ s ∷ []) (fold-roll-Term t.Expression t.Factor t.Term expression_step factor_step term_step (record { operator = op; operand = e }))

pub elsif_part_is : (at : ℕ) (e : Expression) (ss : Vec Statement Global) → elsif_part_view (roll-ElsifPart (record { at = at; condition = e; statements = ss })) ≡ record { at = at; condition = expression_view e; statements = s.statements_of (statements_view ss.items) }
elsif_part_is at e ss = fold-roll-ElsifPart s.Selective s.Statement s.CaseAlternative s.ElsifPart select_step statement_step case_step elsif_step (record { at = at; condition = e; statements = ss })

pub alternative_is : (at : ℕ) (cs : Vec Choice Global) (ss : Vec Statement Global) → alternative_view (roll-CaseAlternative (record { at = at; choices = cs; statements = ss })) ≡ record { at = at; choices = map choice_view cs.items; statements = s.statements_of (statements_view ss.items) }
alternative_is at cs ss = fold-roll-CaseAlternative s.Selective s.Statement s.CaseAlternative s.ElsifPart select_step statement_step case_step elsif_step (record { at = at; choices = cs; statements = ss })
