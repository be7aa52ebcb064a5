use Rattle.std.proofs.Common.{refl}
use Rattle.std.specs.Prelude.{Some, None}
use Rattle.rv_run.proofs.serving.serve_line.Goals as goal

pub returns-in-Some : goal.returns-in-Some
returns-in-Some g c = record { heeded = _; answer = Some c.in-Some.answered; heeds = c.in-Some.ensures _; carried = (refl, refl) }

pub returns-in-None : goal.returns-in-None
returns-in-None g c = record { heeded = _; answer = None; heeds = c.in-None.ensures _; carried = (_, _, c.command.ensures.commands c.args.line.now (c.order_of-read.ensures.gives, c.order_of-read.ensures.stepped), c.command.ensures.hears, refl) }
