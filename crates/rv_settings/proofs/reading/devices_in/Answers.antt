use Rattle.std.proofs.Common.{◌≡◌, ◌≤◌, arith, drop, length, [], append-nil}
use Rattle.std.proofs.lemmas.Grind.{common_steps}
use Rattle.std.proofs.lemmas.List.{drop_all}
use Rattle.rv_settings.proofs.reading.devices_in.Goals as goal

pub returns-clause-ok : goal.returns-clause-ok
returns-clause-ok c =
    let xs = c.deref-value-items.result.now in
    let past : length xs ≤ c.each.value-index = grind (arith, common_steps) in
    let none : drop c.each.value-index xs ≡ [] = drop_all c.each.value-index xs past in
    let all = rw (append-nil c.each.devices.items) at (c.each.invariant [] (rw none tt)) in
    rw c.deref-value-items.ensures.value at all
