use Rattle.std.proofs.Common.{rules, ◌≡◌, ◌∙◌, sym, ap, refl, arith, to_z, of_z, w64, ℤ}
use Rattle.rv_exec.specs.Choices.{covered}
use Rattle.rv_flat.specs.Tables.{trees}
use Rattle.rv_flat.specs.Trees.{tree_at, as_choices}
use Rattle.rv_machine.proofs.ChoiceSteps.{shorter, covers_here, covers_on, covers_none}
use Rattle.rv_machine.proofs.choices.covered.Goals as goal

pub choices-init : goal.choices-init
choices-init c = refl

pub returns-then-covers : goal.returns-then-covers
returns-then-covers c =
    let item : to_z w64 (of_z w64 c.args.value) ≡ c.args.value = Prim.first_of (Prim.search rules, Prim.grind arith) in
    sym (ap (λ (z : ℤ). covered (as_choices (tree_at (trees c.args.code.now) c.args.choices)) z) (sym item) ∙ (sym c.choices.invariant ∙ covers_here _ _ _ _ c.in-Some.ensures.found (sym c.covers.ensures ∙ c.if-covers.true)))

pub choices-smaller : goal.choices-smaller
choices-smaller c = shorter _ _ _ c.in-Some.ensures.found

pub choices-preserved : goal.choices-preserved
choices-preserved c = sym (covers_on _ _ _ _ c.in-Some.ensures.found (sym c.covers.ensures ∙ c.if-covers.false)) ∙ c.choices.invariant

pub returns : goal.returns
returns c =
    let item : to_z w64 (of_z w64 c.args.value) ≡ c.args.value = Prim.first_of (Prim.search rules, Prim.grind arith) in
    sym (ap (λ (z : ℤ). covered (as_choices (tree_at (trees c.args.code.now) c.args.choices)) z) (sym item) ∙ (sym c.choices.invariant ∙ covers_none _ _ (c.in_default.ensures.none refl)))
