use Rattle.std.proofs.Common.{◌∙◌}
use Rattle.std.proofs.lemmas.Result.{on_ok_weaker}
use Rattle.std.specs.Prelude.{string_bytes}
use Rattle.rv_event.specs.Lent.{whole}
use Rattle.rv_shape.specs.Readers.{target_of, who_of}
use Rattle.rv_whatif.proofs.Judging.{change_put, decisions_are}
use Rattle.rv_whatif.proofs.whatif.WhatIf.put_change.Goals as goal

pub returns-clause-text : goal.returns-clause-text
returns-clause-text c =
    on_ok_weaker c.put_line.result
    (λ put keeps. change_put (string_bytes c.args.self.now.text) (string_bytes c.put_line.new.text) c.args.self.now.list c.args.host.now c.args.number (whole c.args.entry.now) c.args.call.now c.catalogue-catalogue.result.now c.clock.result (who_of c.who.result) c.asking_text.result.now (target_of c.callee.result) c.as_str.result.now
    c.catalogue-catalogue.ensures c.clock.ensures c.who.ensures c.asking_text.ensures c.callee.ensures
    (decisions_are c.args.self.now.list c.args.host.now c.args.call.now c.decided_by-would.result c.decided_in_force-was.result c.as_str.result.now (c.decided_by-would.ensures keeps) (c.decided_in_force-was.ensures keeps) (c.as_str.ensures.value ∙ c.in_ok-decisions.ensures))
    put) c.put_line.ensures
