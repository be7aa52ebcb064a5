use Rattle.rv_feed.proofs.Ordered.{handed}
use Rattle.rv_feed.proofs.pair.Speaker.say.Goals as goal

pub send_as-requires-clause-rule : goal.send_as-requires-clause-rule
send_as-requires-clause-rule g c = (handed _ _ _ c.args.piece c.args.self.now.says, λ items views holds at. tt)
