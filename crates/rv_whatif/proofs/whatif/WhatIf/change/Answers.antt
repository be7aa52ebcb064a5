use Rattle.std.proofs.lemmas.Result.{on_ok_weaker}
use Rattle.rv_event.specs.Lent.{whole}
use Rattle.rv_whatif.proofs.Judging.{changed}
use Rattle.rv_whatif.proofs.whatif.WhatIf.change.Goals as goal

pub returns : goal.returns
returns c =
    on_ok_weaker c.count.result
    (λ counts. changed c.args.self.now c.put_change.new.self c.note_call.new.self c.count.new.self c.args.host.now c.args.number (whole c.args.entry.now) c.args.call.now
    c.in_ok-put_change.ensures.text c.put_change.ensures.rest c.in_ok-note_call.ensures.calls c.note_call.ensures.rest counts c.count.ensures.rest) c.count.ensures.tallies
