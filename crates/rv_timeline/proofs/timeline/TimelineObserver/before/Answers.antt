use Rattle.rv_timeline.proofs.Looking.{asks_noted, lists_noted, loads_noted}
use Rattle.rv_timeline.proofs.timeline.TimelineObserver.before.Goals as goal

pub returns-in-Asks : goal.returns-in-Asks
returns-in-Asks c =
    asks_noted c.args.self.now c.note_moment.new.self c.look.new.self c.args._units.now c.args.host.now c.args.number c.args.deed.now c.in-Asks.actor c.in-Asks.request c.in-Asks.word c.look.result c.in-Asks.is c.in_ok-note_moment.ensures c.look.ensures

pub returns-in-Loads : goal.returns-in-Loads
returns-in-Loads c = loads_noted c.args.self.now c.note_moment.new.self c.args._units.now c.args.host.now c.args.number c.args.deed.now c.in-Loads.field-0 c.in-Loads.field-1 c.in-Loads.field-2 c.in-Loads.is c.in_ok-note_moment.ensures

pub returns-in-Lists : goal.returns-in-Lists
returns-in-Lists c = lists_noted c.args.self.now c.note_moment.new.self c.args._units.now c.args.host.now c.args.number c.args.deed.now c.in-Lists.field-0 c.in-Lists.field-1 c.in-Lists.field-2 c.in-Lists.is c.in_ok-note_moment.ensures
