use Rattle.std.proofs.Common.{arith, ◌≤◌, suc, length}
use Rattle.rv_machine.proofs.CopySteps.{beyond}
use Rattle.rv_machine.proofs.copying.next_index.Goals as goal

pub returns-else-index-len : goal.returns-else-index-len
returns-else-index-len c = λ targets a.
    let past : length c.args.values ≤ c.args.index = omega arith in
    let more : length c.args.values ≤ suc c.args.index = omega arith in
    beyond targets (suc c.args.index) c.args.index c.args.values a more past
