use Rattle.std.proofs.Common.{rules, ◌≡◌, ◌∙◌, sym, refl, arith, to_z, of_z, w64}
use Rattle.rv_machine.proofs.ChoiceSteps.{shorter}
use Rattle.rv_machine.proofs.CopySteps.{copy_on, copy_stops, copy_none}
use Rattle.rv_machine.proofs.copying.copy_back.Goals as goal

pub targets-init : goal.targets-init
targets-init c = refl

pub returns-then-not-is_next : goal.returns-then-not-is_next
returns-then-not-is_next c =
    let item : to_z w64 (of_z w64 c.value_at.result) ≡ c.value_at.result = Prim.first_of (Prim.search rules, Prim.grind arith) in
    sym (sym c.targets.invariant ∙ copy_stops _ _ _ _ _ _ _ _ _ c.in-Some.ensures.found (item ∙ c.value_at.ensures) c.assign-end.ensures (sym c.is_next.ensures ∙ c.if-not-is_next.true))

pub targets-smaller : goal.targets-smaller
targets-smaller c = shorter _ _ _ c.in-Some.ensures.found

pub targets-preserved : goal.targets-preserved
targets-preserved c =
    let item : to_z w64 (of_z w64 c.value_at.result) ≡ c.value_at.result = Prim.first_of (Prim.search rules, Prim.grind arith) in
    sym (c.next_index-index.ensures _ _) ∙ (sym (copy_on _ _ _ _ _ _ _ _ _ c.in-Some.ensures.found (item ∙ c.value_at.ensures) c.assign-end.ensures (sym c.is_next.ensures ∙ c.if-not-is_next.false)) ∙ c.targets.invariant)

pub returns : goal.returns
returns c = sym (sym c.targets.invariant ∙ copy_none _ _ _ _ (c.in_default.ensures.none refl))
