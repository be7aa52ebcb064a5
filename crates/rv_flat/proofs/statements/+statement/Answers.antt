use Rattle.std.proofs.Common.{rules, ◌≡◌, refl, sym, subst, arith, ◌-◌, get_or}
use Rattle.rv_code.specs.declared.statement.Statement.{the_lemmas as statement_lemmas}
use Rattle.rv_code.specs.Statements as s
use Rattle.rv_code.specs.ExpressionView.{expression_view, expressions_view}
use Rattle.rv_code.specs.StatementView.{statement_view, statements_view, branches_view, alternatives_view}
use Rattle.rv_flat.specs.Tables.{trees}
use Rattle.rv_flat.specs.Trees.{Stands, as_statement, as_statements, as_branches, as_alternatives}
use Rattle.rv_flat.proofs.Adding.{null_stands, assign_stands, if_stands, case_stands, while_stands, for_stands, exit_stands, return_stands, return_value_stands, raise_stands, reraise_stands, call_statement_stands, statements_stand, branch_stands, alternative_stands, kept, behind_all, none_left, list_grows}
use Rattle.rv_flat.proofs.statements.+statement.Goals as goal

pub add_statement-returns-in_ok-leaf-in-Null : goal.add_statement-returns-in_ok-leaf-in-Null
add_statement-returns-in_ok-leaf-in-Null t c =
    let v : statement_view c.args.statement.now ≡ s.null_statement = Prim.first_of (Prim.search (rules, statement_lemmas), Prim.grind (arith, statement_lemmas)) in
    subst (λ x. Stands as_statement (trees c.args.code.now) (trees c.leaf.new.self) c.in_ok-leaf-in-Null.field-0 x) (sym v) (null_stands _ _ _ c.in_ok-leaf-in-Null.ensures)

pub add_statement-returns-in_ok-one-in-Assign : goal.add_statement-returns-in_ok-one-in-Assign
add_statement-returns-in_ok-one-in-Assign t c =
    let v : statement_view c.args.statement.now ≡ s.assign c.in-Assign.target (expression_view c.in-Assign.value) = Prim.first_of (Prim.search (rules, statement_lemmas), Prim.grind (arith, statement_lemmas)) in
    subst (λ x. Stands as_statement (trees c.args.code.now) (trees c.one.new.self) c.in_ok-one-in-Assign.field-0 x) (sym v) (assign_stands _ _ _ _ _ _ _ c.in_ok-first-in-Assign.ensures c.in_ok-one-in-Assign.ensures)

pub add_statement-returns-in_ok-two-in-If : goal.add_statement-returns-in_ok-two-in-If
add_statement-returns-in_ok-two-in-If t c =
    let v : statement_view c.args.statement.now ≡ s.choice (branches_view c.in-If.branches.items) (statements_view c.in-If.otherwise.items) = Prim.first_of (Prim.search (rules, statement_lemmas), Prim.grind (arith, statement_lemmas)) in
    let h = c.in_ok-first-in-If.ensures in
    let g = c.in_ok-second-in-If.ensures in
    subst (λ x. Stands as_statement (trees c.args.code.now) (trees c.two.new.self) c.in_ok-two-in-If.field-0 x) (sym v) (if_stands _ _ _ _ _ _ _ _ (kept _ _ _ _ _ _ _ _ _ h g) (behind_all _ _ _ _ _ _ _ _ _ h g) c.in_ok-two-in-If.ensures)

pub add_statement-returns-in_ok-two-in-Case : goal.add_statement-returns-in_ok-two-in-Case
add_statement-returns-in_ok-two-in-Case t c =
    let v : statement_view c.args.statement.now ≡ s.selection (expression_view c.in-Case.selector) (alternatives_view c.in-Case.alternatives.items) = Prim.first_of (Prim.search (rules, statement_lemmas), Prim.grind (arith, statement_lemmas)) in
    let h = c.in_ok-first-in-Case.ensures in
    let g = c.in_ok-second-in-Case.ensures in
    subst (λ x. Stands as_statement (trees c.args.code.now) (trees c.two-in-Case.new.self) c.in_ok-two-in-Case.field-0 x) (sym v) (case_stands _ _ _ _ _ _ _ _ (kept _ _ _ _ _ _ _ _ _ h g) (behind_all _ _ _ _ _ _ _ _ _ h g) c.in_ok-two-in-Case.ensures)

pub add_statement-returns-in_ok-two-in-While : goal.add_statement-returns-in_ok-two-in-While
add_statement-returns-in_ok-two-in-While t c =
    let v : statement_view c.args.statement.now ≡ s.while_loop (expression_view c.in-While.condition) (statements_view c.in-While.statements.items) = Prim.first_of (Prim.search (rules, statement_lemmas), Prim.grind (arith, statement_lemmas)) in
    let h = c.in_ok-first-in-While.ensures in
    let g = c.in_ok-second-in-While.ensures in
    subst (λ x. Stands as_statement (trees c.args.code.now) (trees c.two-in-While.new.self) c.in_ok-two-in-While.field-0 x) (sym v) (while_stands _ _ _ _ _ _ _ _ (kept _ _ _ _ _ _ _ _ _ h g) (behind_all _ _ _ _ _ _ _ _ _ h g) c.in_ok-two-in-While.ensures)

pub add_statement-returns-in_ok-three-in-For : goal.add_statement-returns-in_ok-three-in-For
add_statement-returns-in_ok-three-in-For t c =
    let v : statement_view c.args.statement.now ≡ s.for_loop c.in-For.parameter c.in-For.is_reverse c.in-For.range (expression_view c.in-For.low) (expression_view c.in-For.high) (statements_view c.in-For.statements.items) = Prim.first_of (Prim.search (rules, statement_lemmas), Prim.grind (arith, statement_lemmas)) in
    let h = c.in_ok-first-in-For.ensures in
    let g = c.in_ok-second-in-For.ensures in
    let k = c.in_ok-third-in-For.ensures in
    subst (λ x. Stands as_statement (trees c.args.code.now) (trees c.three.new.self) c.in_ok-three-in-For.field-0 x) (sym v) (for_stands _ _ _ _ _ _ _ _ _ _ _ _ _ (kept _ _ _ _ _ _ _ _ _ (kept _ _ _ _ _ _ _ _ _ h g) k) (kept _ _ _ _ _ _ _ _ _ (behind_all _ _ _ _ _ _ _ _ _ h g) k) (behind_all _ _ _ _ _ _ _ _ _ (behind_all _ _ _ _ _ _ _ _ _ h g) k) c.in_ok-three-in-For.ensures)

pub add_statement-returns-in_ok-one-in-ExitWhen : goal.add_statement-returns-in_ok-one-in-ExitWhen
add_statement-returns-in_ok-one-in-ExitWhen t c =
    let v : statement_view c.args.statement.now ≡ s.exit_when (expression_view c.in-ExitWhen.condition) = Prim.first_of (Prim.search (rules, statement_lemmas), Prim.grind (arith, statement_lemmas)) in
    subst (λ x. Stands as_statement (trees c.args.code.now) (trees c.one-in-ExitWhen.new.self) c.in_ok-one-in-ExitWhen.field-0 x) (sym v) (exit_stands _ _ _ _ _ _ c.in_ok-first-in-ExitWhen.ensures c.in_ok-one-in-ExitWhen.ensures)

pub add_statement-returns-in_ok-leaf-in-Return : goal.add_statement-returns-in_ok-leaf-in-Return
add_statement-returns-in_ok-leaf-in-Return t c =
    let v : statement_view c.args.statement.now ≡ s.returns = Prim.first_of (Prim.search (rules, statement_lemmas), Prim.grind (arith, statement_lemmas)) in
    subst (λ x. Stands as_statement (trees c.args.code.now) (trees c.leaf-in-Return.new.self) c.in_ok-leaf-in-Return.field-0 x) (sym v) (return_stands _ _ _ c.in_ok-leaf-in-Return.ensures)

pub add_statement-returns-in_ok-one-in-ReturnValue : goal.add_statement-returns-in_ok-one-in-ReturnValue
add_statement-returns-in_ok-one-in-ReturnValue t c =
    let v : statement_view c.args.statement.now ≡ s.returns_value (expression_view c.in-ReturnValue.value) = Prim.first_of (Prim.search (rules, statement_lemmas), Prim.grind (arith, statement_lemmas)) in
    subst (λ x. Stands as_statement (trees c.args.code.now) (trees c.one-in-ReturnValue.new.self) c.in_ok-one-in-ReturnValue.field-0 x) (sym v) (return_value_stands _ _ _ _ _ _ c.in_ok-first-in-ReturnValue.ensures c.in_ok-one-in-ReturnValue.ensures)

pub add_statement-returns-in_ok-leaf-in-Raise : goal.add_statement-returns-in_ok-leaf-in-Raise
add_statement-returns-in_ok-leaf-in-Raise t c =
    let v : statement_view c.args.statement.now ≡ s.raises c.in-Raise.exception = Prim.first_of (Prim.search (rules, statement_lemmas), Prim.grind (arith, statement_lemmas)) in
    subst (λ x. Stands as_statement (trees c.args.code.now) (trees c.leaf-in-Raise.new.self) c.in_ok-leaf-in-Raise.field-0 x) (sym v) (raise_stands _ _ _ _ c.in_ok-leaf-in-Raise.ensures)

pub add_statement-returns-in_ok-leaf-in-Reraise : goal.add_statement-returns-in_ok-leaf-in-Reraise
add_statement-returns-in_ok-leaf-in-Reraise t c =
    let v : statement_view c.args.statement.now ≡ s.reraises = Prim.first_of (Prim.search (rules, statement_lemmas), Prim.grind (arith, statement_lemmas)) in
    subst (λ x. Stands as_statement (trees c.args.code.now) (trees c.leaf-in-Reraise.new.self) c.in_ok-leaf-in-Reraise.field-0 x) (sym v) (reraise_stands _ _ _ c.in_ok-leaf-in-Reraise.ensures)

pub add_statement-returns-in_ok-two-in-Call : goal.add_statement-returns-in_ok-two-in-Call
add_statement-returns-in_ok-two-in-Call t c =
    let v : statement_view c.args.statement.now ≡ s.calls c.in-Call.callee (expressions_view c.in-Call.given.items) c.in-Call.targets.items = Prim.first_of (Prim.search (rules, statement_lemmas), Prim.grind (arith, statement_lemmas)) in
    let h = c.in_ok-first-in-Call.ensures in
    let g = c.in_ok-second-in-Call.ensures in
    subst (λ x. Stands as_statement (trees c.args.code.now) (trees c.two-in-Call.new.self) c.in_ok-two-in-Call.field-0 x) (sym v) (call_statement_stands _ _ _ _ _ _ _ _ _ (kept _ _ _ _ _ _ _ _ _ h g) (behind_all _ _ _ _ _ _ _ _ _ h g) c.in_ok-two-in-Call.ensures)

pub add_statements-loop-left-init : goal.add_statements-loop-left-init
unfolding as_statements
add_statements-loop-left-init t c = none_left as_statements statements_view _ c.args.statements.now.items c.len-left.result refl (Prim.search rules)

pub add_branches-loop-left-init : goal.add_branches-loop-left-init
unfolding as_branches
add_branches-loop-left-init t c = none_left as_branches branches_view _ c.args.branches.now.items c.len-left.result refl (Prim.search rules)

pub add_alternatives-loop-left-init : goal.add_alternatives-loop-left-init
unfolding as_alternatives
add_alternatives-loop-left-init t c = none_left as_alternatives alternatives_view _ c.args.alternatives.now.items c.len-left.result refl (Prim.search rules)

pub add_statements-loop-left-preserved : goal.add_statements-loop-left-preserved
add_statements-loop-left-preserved t c =
    let at : c.index.result.now ≡ get_or c.args.statements.now.items (c.loop-left.left - 1) c.index.result.now = Prim.search (rules, c.index.ensures) in
    let inv = c.loop-left.invariant.1 in
    let h = c.in_ok-first.ensures in
    list_grows as_statements statements_view _ _ c.args.statements.now.items c.loop-left.left _ c.index.result.now (omega arith) c.loop-left.invariant.0 at
    (statements_stand _ _ _ _ _ _ _ _ (behind_all _ _ _ _ _ _ _ _ _ inv h) (kept _ _ _ _ _ _ _ _ _ inv h) c.in_ok-rest.ensures)

pub add_branches-loop-left-preserved : goal.add_branches-loop-left-preserved
add_branches-loop-left-preserved t c =
    let at : c.index-branch.result.now ≡ get_or c.args.branches.now.items (c.loop-left.left - 1) c.index-branch.result.now = Prim.search (rules, c.index-branch.ensures) in
    let inv = c.loop-left.invariant.1 in
    let h = c.in_ok-first.ensures in
    let g = c.in_ok-second.ensures in
    let first = behind_all _ _ _ _ _ _ _ _ _ inv h in
    list_grows as_branches branches_view _ _ c.args.branches.now.items c.loop-left.left _ c.index-branch.result.now (omega arith) c.loop-left.invariant.0 at
    (branch_stands _ _ _ _ _ _ c.index-branch.result.now _ _ (kept _ _ _ _ _ _ _ _ _ first g) (behind_all _ _ _ _ _ _ _ _ _ first g) (kept _ _ _ _ _ _ _ _ _ (kept _ _ _ _ _ _ _ _ _ inv h) g) c.in_ok-rest.ensures)

pub add_alternatives-loop-left-preserved : goal.add_alternatives-loop-left-preserved
add_alternatives-loop-left-preserved t c =
    let at : c.index-alternative.result.now ≡ get_or c.args.alternatives.now.items (c.loop-left.left - 1) c.index-alternative.result.now = Prim.search (rules, c.index-alternative.ensures) in
    let inv = c.loop-left.invariant.1 in
    let h = c.in_ok-first.ensures in
    let g = c.in_ok-second.ensures in
    let first = behind_all _ _ _ _ _ _ _ _ _ inv h in
    list_grows as_alternatives alternatives_view _ _ c.args.alternatives.now.items c.loop-left.left _ c.index-alternative.result.now (omega arith) c.loop-left.invariant.0 at
    (alternative_stands _ _ _ _ _ _ c.index-alternative.result.now _ _ (kept _ _ _ _ _ _ _ _ _ first g) (behind_all _ _ _ _ _ _ _ _ _ first g) (kept _ _ _ _ _ _ _ _ _ (kept _ _ _ _ _ _ _ _ _ inv h) g) c.in_ok-rest.ensures)
