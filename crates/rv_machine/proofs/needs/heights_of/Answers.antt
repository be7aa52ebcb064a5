use Rattle.std.proofs.Common.{arith}
use Rattle.rv_flat.specs.Tables.{trees}
use Rattle.rv_machine.proofs.Needing.{among_trees}
use Rattle.rv_machine.proofs.needs.heights_of.Goals as goal

pub numbers-smaller : goal.numbers-smaller
numbers-smaller c =
    let within = among_trees (trees c.args.code.now) c.len.result _ c.in-Some.ensures.found in
    let is = c.len.ensures in
    let longer = c.in_ok-push-2.ensures.len in
    omega (arith, within, is, longer, c.numbers.heights.ok, c.push-in-numbers.new.self.ok)
