use Rattle.std.proofs.Common.{arith, refl}
use Rattle.std.proofs.lemmas.Result.{on_ok_weaker}
use Rattle.rv_whatif.proofs.Looking.{looks}
use Rattle.rv_whatif.proofs.whatif.WhatIf.look.Goals as goal

pub returns : goal.returns
returns c =
    on_ok_weaker c.note.result
    (λ notes. looks c.args.self.now c.judge.new.self (record c.judge.new.self { holding = c.note.new.self }) c.args.host.now c.catalogue-catalogue.result.now c.args.number c.args.actor c.args.request.now c.args.word c.asked_at-asked.result
    c.catalogue-catalogue.ensures c.asked_at-asked.ensures (omega arith) c.in_ok-judge.ensures refl notes) c.note.ensures
