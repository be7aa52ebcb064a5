use Rattle.std.proofs.Common.{rules, ◌≡◌, ◌<◌, ◌∷◌, [], ◌++◌, pos, length, get_or, ap, ◌∙◌, arith, to_z, of_z, w64}
use Rattle.rv_exec.proofs.Lists.{front_other}
use Rattle.rv_exec.proofs.activation.replaced.Goals as goal

pub loop-place-preserved : goal.loop-place-preserved
loop-place-preserved c =
    let same = c.as_slice-old-items.ensures.value in
    let lt : c.loop-place.place < length c.args.values.now = omega (arith, ap length same) in
    let item : to_z w64 (of_z w64 (get_or c.as_slice-old-items.result.now c.loop-place.place (pos 0))) ≡ get_or c.as_slice-old-items.result.now c.loop-place.place (pos 0) = first_of (search rules, grind arith) in
    c.push-in-loop-place.ensures
    ∙ ap (λ xs. xs ++ to_z w64 (of_z w64 (get_or c.as_slice-old-items.result.now c.loop-place.place (pos 0))) ∷ []) c.loop-place.invariant
    ∙ front_other c.args.values.now c.args.index c.loop-place.place _ _ c.if-place-index.false lt (item ∙ ap (λ xs. get_or xs c.loop-place.place (pos 0)) same)
