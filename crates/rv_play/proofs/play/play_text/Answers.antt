use Rattle.std.proofs.Common.{List, subst}
use Rattle.std.proofs.lemmas.Result.{err_from_is_err_and}
use Rattle.rv_text.specs.Sections.{SectionText}
use Rattle.rv_play.specs.Acts.{acts_from}
use Rattle.rv_play.specs.Carried.{Carries}
use Rattle.rv_play.specs.Scripted.{playing}
use Rattle.rv_play.proofs.Beginning.{front_refused, unread, carried_writes}
use Rattle.rv_play.proofs.play.play_text.Goals as goal

pub returns-in-Err : goal.returns-in-Err
returns-in-Err g c = rw c.refused.ensures (front_refused c.args.all _ c.args.text.now c.in-Err.line c.in-Err.ensures.err)

pub returns-in_err-limits : goal.returns-in_err-limits
returns-in_err-limits g c =
    let p = err_from_is_err_and c.from_residual.result c.from_residual.ensures.1 in
    rw (p.1, p.2) (unread c.args.all _ c.args.text.now _ _ c.in-Ok.ensures.ok c.in_err-limits.ensures)

pub returns-in-Ok-new : goal.returns-in-Ok-new
returns-in-Ok-new g c =
    let carried = subst (λ (sections : List SectionText). Carries (g.W.Write.contents c.args.writer.now) (g.W.Write.contents c.carry_out_all-done.new.writer) (playing c.in-Ok-new.player) (playing c.carry_out_all-done.new.player) (acts_from sections) c.carry_out_all-done.result) c.of.ensures c.carry_out_all-done.ensures in
    carried_writes c.args.all _ _ c.args.text.now _ c.in_ok-limits.limits _ _ _ c.in-Ok.ensures.ok c.in_ok-limits.ensures c.in-Ok-new.ensures carried
