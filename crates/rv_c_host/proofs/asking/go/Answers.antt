use Rattle.std.proofs.Common.{rules, w32, to_z, of_z}
use Rattle.rv_c_host.proofs.Coming.{gone}
use Rattle.rv_c_host.proofs.asking.go.Goals as goal

pub returns : goal.returns
returns c =
    gone c.args.actor c.args.handle.now.value c.put.new.self.value c.deref_mut.result.now c.go-answer.new.self c.go-answer.result c.args.told.now
    c.tell.new.told (to_z w32 (of_z w32 c.tell.result)) c.go-answer.ensures (search rules) (search rules) (search rules) (search rules)
