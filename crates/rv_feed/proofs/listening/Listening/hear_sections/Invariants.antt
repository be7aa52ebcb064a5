use Rattle.rv_input.specs.Whole.{IsAtLine}
use Rattle.rv_feed.specs.Hearing.{HearsOn, heard}
use Rattle.rv_feed.proofs.listening.Listening.hear_sections.Given as goal

abbrev pub invariant-loop : goal.invariant-loop
invariant-loop g l = record {
  goes : (goal.iterator-loop g).can_next l.iterator' × (goal.iterator-loop g).is_finite l.iterator';
  hears : HearsOn (heard l.fn.self.feed) (heard l.self.feed) l.fn.input l.input;
  at : IsAtLine l.looked l.input.ahead;
}
