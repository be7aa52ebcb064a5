use Rattle.std.proofs.Common.{Result, Ok, Err, subst}
use Rattle.std.proofs.lemmas.Result.{err_from_is_err_and}
use Rattle.rv_fault.specs.declared.failure.Failure.{Failure}
use Rattle.rv_play.specs.Acts.{line_of}
use Rattle.rv_play.specs.declared.deed.Deed.{Deed}
use Rattle.rv_play.specs.Stages.{deed_text}
use Rattle.rv_play.specs.Scripted.{playing}
use Rattle.rv_play.specs.Deeds.{Comes, ComesToDeed}
use Rattle.rv_play.proofs.Performing.{does_act, fails_act}
use Rattle.rv_play.proofs.play.perform.Goals as goal

pub returns-in_ok-tell-in-Ok : goal.returns-in_ok-tell-in-Ok
returns-in_ok-tell-in-Ok g c act comes =
    does_act _ _ _ _ act (deed_text c.in-Ok.deed) (Ok tt) (subst (λ (r : Result Deed Failure). Comes (line_of act) (ComesToDeed (playing c.args.player.now).stage act) r) c.in-Ok.is comes) c.in_ok-tell-in-Ok.ensures.does

pub returns-in_err-tell-in-Ok : goal.returns-in_err-tell-in-Ok
returns-in_err-tell-in-Ok g c act comes =
    let p = err_from_is_err_and c.from_residual.result c.from_residual.ensures.1 in
    rw (p.1, p.2) (does_act _ _ _ _ act (deed_text c.in-Ok.deed) (Err _) (subst (λ (r : Result Deed Failure). Comes (line_of act) (ComesToDeed (playing c.args.player.now).stage act) r) c.in-Ok.is comes) c.in_err-tell-in-Ok.ensures.does)

pub returns-in-Err : goal.returns-in-Err
returns-in-Err g c act comes =
    fails_act _ _ act c.in-Err.failure (subst (λ (r : Result Deed Failure). Comes (line_of act) (ComesToDeed (playing c.args.player.now).stage act) r) c.in-Err.is comes)
