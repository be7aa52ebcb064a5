use Rattle.std.proofs.Common.{◌≡◌, ◌∷◌, ℕ, List, length, ap, arith}
use Rattle.rv_table.specs.Spans.{IsOpenRow}
use Rattle.rv_table.proofs.Reached.{zip_long}
use Rattle.rv_table.proofs.spans.Spans.build.Goals as goal

pub invariant_of-result : goal.invariant_of-result
invariant_of-result c =
    let long : length c.in_ok-rows.rows.items ≡ length (0 ∷ c.deref.result.now) = zip_long (IsOpenRow c.args.list.now) (0 ∷ c.deref.result.now) c.in_ok-rows.rows.items c.in_ok-rows.ensures in
    let same : length c.deref.result.now ≡ length c.in_ok-ends.ends.items = ap (λ (ends : List ℕ). length ends) c.deref.ensures.value in
    (c.in_ok-ends.ensures.rising, omega (arith, long, same))
