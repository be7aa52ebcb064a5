use Rattle.std.proofs.Common.{rules, w32, to_z, of_z}
use Rattle.rv_c_host.proofs.Coming.{fired}
use Rattle.rv_c_host.proofs.asking.fire.Goals as goal

pub returns : goal.returns
returns c =
    fired c.args.line c.args.handle.now.value c.put.new.self.value c.deref_mut.result.now c.fire-answer.new.self c.fire-answer.result c.args.told.now
    c.tell.new.told (to_z w32 (of_z w32 c.tell.result)) c.fire-answer.ensures (search rules) (search rules) (search rules) (search rules)
