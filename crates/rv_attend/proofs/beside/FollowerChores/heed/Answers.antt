use Rattle.std.proofs.Common.{◌≡◌, ◌∙◌, ap, refl}
use Rattle.rv_attend.specs.Going.{terms}
use Rattle.rv_attend.specs.Holding.{holding}
use Rattle.rv_attend.specs.declared.attention.Attention.{Attention}
use Rattle.rv_feed.specs.Hearing.{heard, told}
use Rattle.rv_attend.proofs.beside.FollowerChores.heed.Goals as goal

pub returns : goal.returns
returns g c = λ left. record {
  plain = λ p. c.heed.ensures.plain left p;
  chores = c.heed.ensures.chores;
  crew = c.heed.ensures.crew;
  later = c.heed.ensures.later;
  unread = record { input = refl; left = refl };
  same = ap (λ (k : _). holding (g.F.Write.contents k.file) k.next (terms c.heed.new.follower.asked c.heed.new.follower.room.capacity)
      (heard c.heed.new.follower.source.feed) (told c.heed.new.follower.source.stop)) c.heed.ensures.keeper
      ∙ ap (λ (a : Attention). holding (g.F.Write.contents c.args.self.now.keeper.file) c.args.self.now.keeper.next (terms a c.heed.new.follower.room.capacity)
      (heard c.heed.new.follower.source.feed) (told c.heed.new.follower.source.stop)) c.heed.ensures.asked
      ∙ ap (λ (r : _). holding (g.F.Write.contents c.args.self.now.keeper.file) c.args.self.now.keeper.next (terms c.args.self.now.asked r.capacity)
      (heard c.heed.new.follower.source.feed) (told c.heed.new.follower.source.stop)) c.heed.ensures.room
      ∙ ap (λ (s : _). holding (g.F.Write.contents c.args.self.now.keeper.file) c.args.self.now.keeper.next (terms c.args.self.now.asked c.args.self.now.room.capacity)
      (heard s.feed) (told s.stop)) c.heed.ensures.source;
}
