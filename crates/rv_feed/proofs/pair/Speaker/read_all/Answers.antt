use Rattle.std.proofs.Common.{[], rules}
use Rattle.rv_feed.specs.Hearing.{said}
use Rattle.rv_feed.proofs.Ordered.{hands_last, hands_more, hands_none}
use Rattle.rv_feed.proofs.pair.Speaker.read_all.Goals as goal

pub loop-init : goal.loop-init
loop-init g c = record {
  goes = (tt, tt);
  going = λ going. going;
  whole = hands_none (said c.args.self.now) (g.I.Read.remaining c.args.reader.now);
}

pub returns-then-not-read_on-clause-hands : goal.returns-then-not-read_on-clause-hands
returns-then-not-read_on-clause-hands g c =
    hands_last (g.I.Read.remaining c.args.reader.now) (g.I.Read.remaining c.loop.reader) (g.I.Read.remaining c.read_on.new.reader) (said c.args.self.now) (said c.loop.self)
    (said c.read_on.new.self) c.loop.invariant.whole c.read_on.ensures.hands

pub returns-then-not-read_on-clause-ends : goal.returns-then-not-read_on-clause-ends
returns-then-not-read_on-clause-ends g c = λ going. c.read_on.ensures.ends (c.loop.invariant.going going)

pub loop-preserved : goal.loop-preserved
loop-preserved g c = record {
  goes = (tt, tt);
  going = λ _. c.read_on.ensures.goes (search rules);
  whole =
      hands_more (g.I.Read.remaining c.args.reader.now) (g.I.Read.remaining c.loop.reader) (g.I.Read.remaining c.read_on.new.reader) (said c.args.self.now) (said c.loop.self)
      (said c.read_on.new.self) [] c.loop.invariant.whole (c.read_on.ensures.whole (search rules));
}
