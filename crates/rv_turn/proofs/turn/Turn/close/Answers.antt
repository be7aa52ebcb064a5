use Rattle.rv_turn.proofs.Closing.{closed_first, closed_others, closed_about}
use Rattle.rv_turn.proofs.turn.Turn.close.Goals as goal

pub returns-clause-first : goal.returns-clause-first
returns-clause-first g c =
    closed_first g.C.Counted.history g.C.Counted.about g.C.Counted.actor_of _ c.first.inside.place.me.0 _ c.args.first c.hold-value.result.0 _ c.first.view_is c.hold-value.ensures.holds

pub returns-clause-others : goal.returns-clause-others
returns-clause-others g c =
    closed_others g.C.Counted.history g.C.Counted.about g.C.Counted.actor_of _ c.first.inside.place.me.0 _ c.args.first c.args.others.items c.hold-value.result.0 c.hold-value.new.place.me c.take_all.new.place.me _ c.first.view_is c.requires.first.0 c.hold-value.ensures.holds c.take_all.ensures.kept c.look.ensures.looked

pub returns-clause-limits : goal.returns-clause-limits
returns-clause-limits g c =
    closed_about g.C.Counted.history g.C.Counted.about g.C.Counted.actor_of _ c.first.inside.place.me.0 _ c.args.first c.args.others.items c.hold-value.result.0 c.hold-value.new.place.me c.take_all.new.place.me _ c.first.view_is c.requires.first.0 c.hold-value.ensures.holds c.take_all.ensures.kept c.look.ensures.looked
