use Rattle.std.proofs.Common.{◌≡◌, Ok, rules}
use Rattle.rv_run.specs.declared.command.Goes.TheVariants.{On}
use Rattle.rv_run.proofs.Commanded.{said_starts}
use Rattle.rv_run.proofs.command.start_on.Goals as goal

pub returns-in-Ok-On : goal.returns-in-Ok-On
returns-in-Ok-On g c =
    let is : c.args.goes ≡ Ok On = search rules in
    rw is (said_starts c.args.session.now.staff c.start_threads.new.session.staff (g.W.Write.contents c.args.writer.now) (g.W.Write.contents c.start_threads.new.writer) c.start_threads.result c.said.result c.start_threads.ensures c.said.ensures.same, c.said.ensures.goes)
