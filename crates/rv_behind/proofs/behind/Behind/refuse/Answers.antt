use Rattle.std.proofs.Common.{subst}
use Rattle.rv_history.specs.Legal.{Legal}
use Rattle.std.specs.Arc.{arc_value}
use Rattle.rv_behind.proofs.Doing.{does_misuse}
use Rattle.rv_behind.proofs.behind.Behind.refuse.Goals as goal

pub returns : goal.returns
returns c = does_misuse c.args.self.now.host.value (arc_value c.args.self.now.bodies).bodies c.args.actor c.args.ask.now _ c.requires.changes (subst Legal c.deref.ensures c.replays.ensures.legal) c.args.self.now.brought c.requires.other
