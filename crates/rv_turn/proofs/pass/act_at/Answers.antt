use Rattle.std.proofs.Common.{ℕ, sym, subst}
use Rattle.rv_turn.proofs.Acts.{acted_now}
use Rattle.rv_turn.proofs.pass.act_at.Goals as goal

pub returns-clause-acted : goal.returns-clause-acted
returns-clause-acted g c = let x = c.hold-value.result.0 in let y = c.act-reply.new.self in
    acted_now g.C.Counted.history g.C.Counted.about g.C.Counted.actor_of g.C.Counted.answers c.args.place.now.table_id c.args.place.now.me.0 x y _ _ _ c.hold-value.new.place.me c.release.new.place.me c.hold-value.ensures.holds c.release.ensures.change
    (subst (λ (a : ℕ). g.C.Counted.answers (g.C.Counted.about x) (g.C.Counted.history x) a c.args.ask c.act-reply.result (g.C.Counted.history y)) (sym c.requires.idle.3) c.act-reply.ensures.answer) c.requires.idle.1
