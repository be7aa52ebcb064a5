use Rattle.std.proofs.Common.{sym, ◌∙◌}
use Rattle.rv_rights.proofs.Keeping.{asked_keeps, load_keeps}
use Rattle.rv_rights.proofs.rights.RightsObserver.after.Goals as goal

pub returns-in-Asks : goal.returns-in-Asks
returns-in-Asks c = λ begun h meant follows means answer_is recorded_is after_is. record {
  taken = follows.taken;
  other = follows.other;
  list = follows.list ∙ sym (asked_keeps c.args._units.now h c.args.host.now c.args.deed.now c.in-Asks.field-0 c.in-Asks.field-1 c.in-Asks.field-2 meant c.in-Asks.is means after_is);
}

pub returns-in-Loads : goal.returns-in-Loads
returns-in-Loads c = λ begun h meant follows means answer_is recorded_is after_is. record {
  taken = follows.taken;
  other = follows.other;
  list = follows.list ∙ sym (load_keeps c.args._units.now h c.args.host.now c.args.deed.now c.in-Loads.field-0 c.in-Loads.field-1 c.in-Loads.field-2 meant c.in-Loads.is means after_is);
}
