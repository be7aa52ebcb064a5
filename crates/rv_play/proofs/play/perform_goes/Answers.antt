use Rattle.std.proofs.Common.{◌∷◌, [], ◌-◌, Ok, Err, replicate, sym, subst, List}
use Rattle.std.proofs.lemmas.Result.{err_from_is_err_and}
use Rattle.rv_play.specs.Acts.{Act, Goes}
use Rattle.rv_play.specs.Carried.{Carries}
use Rattle.rv_play.specs.Deeds.{Comes, ComesToDeed}
use Rattle.rv_play.specs.Scripted.{Playing, playing}
use Rattle.rv_play.proofs.Carrying.{carries_nothing, carries_then, carries_fails}
use Rattle.rv_play.proofs.Performing.{one_more, others_left}
use Rattle.rv_play.proofs.play.perform_goes.Goals as goal

pub loop-init : goal.loop-init
loop-init g c = carries_nothing _ _

pub loop-preserved : goal.loop-preserved
loop-preserved g c =
    let act : Act = Goes c.args.line c.args.asker.now in
    let comes = subst (λ (p : Playing). Comes c.args.line (ComesToDeed p.stage act) c.go_deed-deed.result) (sym c.go_deed-deed.ensures.same) c.go_deed-deed.ensures.comes in
    let now = subst (λ (p : Playing). Carries (g.W.Write.contents c.loop.writer) (g.W.Write.contents c.perform.new.writer) p (playing c.perform.new.player) (act ∷ []) (Ok tt)) c.go_deed-deed.ensures.same (c.in_ok-perform.ensures act comes) in
    subst (λ (acts : List Act). Carries (g.W.Write.contents c.args.writer.now) (g.W.Write.contents c.perform.new.writer) (playing c.args.player.now) (playing c.perform.new.player) acts (Ok tt)) (one_more c.loop.counter act)
    (carries_then (g.W.Write.contents c.args.writer.now) (g.W.Write.contents c.loop.writer) (g.W.Write.contents c.perform.new.writer) (playing c.args.player.now) (playing c.loop.player) (playing c.perform.new.player) (replicate c.loop.counter act) (act ∷ []) (Ok tt) c.loop.invariant now)

pub returns-in_err-perform : goal.returns-in_err-perform
returns-in_err-perform g c =
    let p = err_from_is_err_and c.from_residual.result c.from_residual.ensures.1 in
    let act : Act = Goes c.args.line c.args.asker.now in
    let comes = subst (λ (p : Playing). Comes c.args.line (ComesToDeed p.stage act) c.go_deed-deed.result) (sym c.go_deed-deed.ensures.same) c.go_deed-deed.ensures.comes in
    let now = subst (λ (p : Playing). Carries (g.W.Write.contents c.loop.writer) (g.W.Write.contents c.perform.new.writer) p (playing c.perform.new.player) (act ∷ []) (Err c.in_err-perform.field-0.0)) c.go_deed-deed.ensures.same (c.in_err-perform.ensures act comes) in
    rw (p.1, p.2) (carries_fails (g.W.Write.contents c.args.writer.now) (g.W.Write.contents c.loop.writer) (g.W.Write.contents c.perform.new.writer) (playing c.args.player.now) (playing c.loop.player) (playing c.perform.new.player) (replicate c.loop.counter act) (act ∷ []) (replicate (c.args.count - c.loop.counter - 1) act) (replicate c.args.count act) _ c.loop.invariant now
    (others_left c.loop.counter c.args.count act c.loop-test.true))
