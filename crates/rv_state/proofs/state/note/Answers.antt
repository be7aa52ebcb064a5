use Rattle.rv_state.proofs.Moments.{asks_noted, lists_noted, loads_noted}
use Rattle.rv_state.proofs.state.note.Goals as goal

pub returns-in-Asks : goal.returns-in-Asks
returns-in-Asks c =
    asks_noted c.args.states.now c.note.new.self c.args.host.now c.args.deed.now c.in-Asks.actor c.in-Asks.request c.in-Asks.word c.note.result c.in-Asks.is c.note.ensures

pub returns-in-Loads : goal.returns-in-Loads
returns-in-Loads c = loads_noted c.args.states.now c.args.host.now c.args.deed.now c.in-Loads.field-0 c.in-Loads.field-1 c.in-Loads.field-2 c.in-Loads.is

pub returns-in-Lists : goal.returns-in-Lists
returns-in-Lists c = lists_noted c.args.states.now c.args.host.now c.args.deed.now c.in-Lists.field-0 c.in-Lists.field-1 c.in-Lists.field-2 c.in-Lists.is
