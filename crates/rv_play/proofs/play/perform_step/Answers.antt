use Rattle.rv_play.specs.Acts.{Steps}
use Rattle.rv_play.specs.Scripted.{playing}
use Rattle.rv_play.proofs.Performing.{one_step}
use Rattle.rv_play.proofs.play.perform_step.Goals as goal

pub returns-in_default : goal.returns-in_default
returns-in_default g c =
    one_step (g.W.Write.contents c.args.writer.now) (g.W.Write.contents c.perform.new.writer) (playing c.args.player.now) (playing c.perform.new.player) c.perform.result c.args.line c.args.asker.now c.args.asked c.in_default.not-Go
    (c.perform.ensures (Steps c.args.line (record { asker = c.args.asker.now; asked = c.args.asked })) c.step_deed-deed.ensures)
