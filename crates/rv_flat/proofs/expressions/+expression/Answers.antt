use Rattle.std.proofs.Common.{rules, ◌≡◌, refl, sym, subst, arith, ◌-◌, get_or, w64}
use mir.Val.{to_z, of_z}
use Rattle.rv_code.specs.declared.expression.Expression.{the_lemmas as expression_lemmas}
use Rattle.rv_code.specs.Expressions as e
use Rattle.rv_code.specs.ExpressionView.{expression_view, expressions_view, links_view}
use Rattle.rv_flat.specs.Tables.{trees}
use Rattle.rv_flat.specs.Trees.{Stands, as_expression, as_expressions, as_links}
use Rattle.rv_flat.proofs.Adding.{value_stands, variable_stands, component_stands, prefixed_stands, chain_stands, within_stands, call_stands, expressions_stand, link_stands, kept, behind_all, none_left, list_grows}
use Rattle.rv_flat.proofs.expressions.+expression.Goals as goal

pub add_expression-returns-in_ok-leaf-in-Value : goal.add_expression-returns-in_ok-leaf-in-Value
add_expression-returns-in_ok-leaf-in-Value t c =
    let v : expression_view c.args.expression.now ≡ e.literal c.in-Value.value = Prim.first_of (Prim.search (rules, expression_lemmas), Prim.grind (arith, expression_lemmas)) in
    let whole : to_z w64 (of_z w64 c.in-Value.value) ≡ c.in-Value.value = Prim.first_of (Prim.search rules, Prim.grind arith) in
    subst (λ x. Stands as_expression (trees c.args.code.now) (trees c.leaf.new.self) c.in_ok-leaf-in-Value.field-0 x) (sym v)
    (subst (λ k. Stands as_expression (trees c.args.code.now) (trees c.leaf.new.self) c.in_ok-leaf-in-Value.field-0 (e.literal k)) whole (value_stands _ _ _ _ c.in_ok-leaf-in-Value.ensures))

pub add_expression-returns-in_ok-leaf-in-Variable : goal.add_expression-returns-in_ok-leaf-in-Variable
add_expression-returns-in_ok-leaf-in-Variable t c =
    let v : expression_view c.args.expression.now ≡ e.variable c.in-Variable.slot = Prim.first_of (Prim.search (rules, expression_lemmas), Prim.grind (arith, expression_lemmas)) in
    subst (λ x. Stands as_expression (trees c.args.code.now) (trees c.leaf-in-Variable.new.self) c.in_ok-leaf-in-Variable.field-0 x) (sym v) (variable_stands _ _ _ _ c.in_ok-leaf-in-Variable.ensures)

pub add_expression-returns-in_ok-leaf-in-Component : goal.add_expression-returns-in_ok-leaf-in-Component
add_expression-returns-in_ok-leaf-in-Component t c =
    let v : expression_view c.args.expression.now ≡ e.component c.in-Component.index = Prim.first_of (Prim.search (rules, expression_lemmas), Prim.grind (arith, expression_lemmas)) in
    subst (λ x. Stands as_expression (trees c.args.code.now) (trees c.leaf-in-Component.new.self) c.in_ok-leaf-in-Component.field-0 x) (sym v) (component_stands _ _ _ _ c.in_ok-leaf-in-Component.ensures)

pub add_expression-returns-in_ok-one-in-Prefixed : goal.add_expression-returns-in_ok-one-in-Prefixed
add_expression-returns-in_ok-one-in-Prefixed t c =
    let v : expression_view c.args.expression.now ≡ e.prefixed c.in-Prefixed.operator (expression_view c.deref.result.now) = Prim.first_of (Prim.search (rules, expression_lemmas), Prim.grind (arith, expression_lemmas)) in
    subst (λ x. Stands as_expression (trees c.args.code.now) (trees c.one.new.self) c.in_ok-one-in-Prefixed.field-0 x) (sym v) (prefixed_stands _ _ _ _ _ _ _ c.in_ok-first-in-Prefixed.ensures c.in_ok-one-in-Prefixed.ensures)

pub add_expression-returns-in_ok-two-in-Chain : goal.add_expression-returns-in_ok-two-in-Chain
add_expression-returns-in_ok-two-in-Chain t c =
    let v : expression_view c.args.expression.now ≡ e.chain (expression_view c.deref-in-Chain.result.now) (links_view c.in-Chain.links.items) = Prim.first_of (Prim.search (rules, expression_lemmas), Prim.grind (arith, expression_lemmas)) in
    let h = c.in_ok-first-in-Chain.ensures in
    let g = c.in_ok-second-in-Chain.ensures in
    subst (λ x. Stands as_expression (trees c.args.code.now) (trees c.two.new.self) c.in_ok-two-in-Chain.field-0 x) (sym v) (chain_stands _ _ _ _ _ _ _ _ (kept _ _ _ _ _ _ _ _ _ h g) (behind_all _ _ _ _ _ _ _ _ _ h g) c.in_ok-two-in-Chain.ensures)

pub add_expression-returns-in_ok-one-in-Within : goal.add_expression-returns-in_ok-one-in-Within
add_expression-returns-in_ok-one-in-Within t c =
    let v : expression_view c.args.expression.now ≡ e.within c.in-Within.range (expression_view c.deref-in-Within.result.now) = Prim.first_of (Prim.search (rules, expression_lemmas), Prim.grind (arith, expression_lemmas)) in
    subst (λ x. Stands as_expression (trees c.args.code.now) (trees c.one-in-Within.new.self) c.in_ok-one-in-Within.field-0 x) (sym v) (within_stands _ _ _ _ _ _ _ c.in_ok-first-in-Within.ensures c.in_ok-one-in-Within.ensures)

pub add_expression-returns-in_ok-one-in-Call : goal.add_expression-returns-in_ok-one-in-Call
add_expression-returns-in_ok-one-in-Call t c =
    let v : expression_view c.args.expression.now ≡ e.call c.in-Call.callee (expressions_view c.in-Call.given.items) = Prim.first_of (Prim.search (rules, expression_lemmas), Prim.grind (arith, expression_lemmas)) in
    subst (λ x. Stands as_expression (trees c.args.code.now) (trees c.one-in-Call.new.self) c.in_ok-one-in-Call.field-0 x) (sym v) (call_stands _ _ _ _ _ _ _ c.in_ok-first-in-Call.ensures c.in_ok-one-in-Call.ensures)

pub add_expressions-loop-left-init : goal.add_expressions-loop-left-init
unfolding as_expressions
add_expressions-loop-left-init t c = none_left as_expressions expressions_view _ c.args.expressions.now.items c.len-left.result refl (Prim.search rules)

pub add_expressions-loop-left-preserved : goal.add_expressions-loop-left-preserved
add_expressions-loop-left-preserved t c =
    let at : c.index.result.now ≡ get_or c.args.expressions.now.items (c.loop-left.left - 1) c.index.result.now = Prim.search (rules, c.index.ensures) in
    let inv = c.loop-left.invariant.1 in
    let h = c.in_ok-first.ensures in
    list_grows as_expressions expressions_view _ _ c.args.expressions.now.items c.loop-left.left _ c.index.result.now (omega arith) c.loop-left.invariant.0 at
    (expressions_stand _ _ _ _ _ _ _ _ (behind_all _ _ _ _ _ _ _ _ _ inv h) (kept _ _ _ _ _ _ _ _ _ inv h) c.in_ok-rest.ensures)

pub add_links-loop-left-init : goal.add_links-loop-left-init
unfolding as_links
add_links-loop-left-init t c = none_left as_links links_view _ c.args.links.now.items c.len-left.result refl (Prim.search rules)

pub add_links-loop-left-preserved : goal.add_links-loop-left-preserved
add_links-loop-left-preserved t c =
    let at : c.index-link.result.now ≡ get_or c.args.links.now.items (c.loop-left.left - 1) c.index-link.result.now = Prim.search (rules, c.index-link.ensures) in
    let inv = c.loop-left.invariant.1 in
    let h = c.in_ok-first.ensures in
    list_grows as_links links_view _ _ c.args.links.now.items c.loop-left.left _ c.index-link.result.now (omega arith) c.loop-left.invariant.0 at
    (link_stands _ _ _ _ _ c.index-link.result.now _ _ (behind_all _ _ _ _ _ _ _ _ _ inv h) (kept _ _ _ _ _ _ _ _ _ inv h) c.in_ok-rest.ensures)
