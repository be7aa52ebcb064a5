use Rattle.std.proofs.Common.{rules, ◌≡◌, ◌∙◌, sym, refl, arith, to_z, of_z, w64}
use Rattle.rv_machine.proofs.Steps.{at_selection}
use Rattle.rv_machine.proofs.StatementSteps.{no_alternative, alternative, next_alternative}
use Rattle.rv_machine.proofs.select.select.Goals as goal

pub returns-in-None : goal.returns-in-None
returns-in-None c = λ fs. no_alternative _ _ _ fs (c.in-None.ensures.none refl)

pub returns-then-covered : goal.returns-then-covered
returns-then-covered c =
    let item : to_z w64 (of_z w64 c.args.value) ≡ c.args.value = Prim.first_of (Prim.search rules, Prim.grind arith) in
    λ fs. at_selection _ _ _ _ _ _ _ item (alternative _ _ _ _ _ _ _ c.in-Some.ensures.found (sym c.covered.ensures ∙ c.if-covered.true))

pub returns-else-covered : goal.returns-else-covered
returns-else-covered c =
    let item : to_z w64 (of_z w64 c.args.value) ≡ c.args.value = Prim.first_of (Prim.search rules, Prim.grind arith) in
    λ fs. at_selection _ _ _ _ _ _ _ item (next_alternative _ _ _ _ _ _ _ c.in-Some.ensures.found (sym c.covered.ensures ∙ c.if-covered.false))
