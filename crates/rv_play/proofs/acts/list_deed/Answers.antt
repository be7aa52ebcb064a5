use Rattle.std.proofs.lemmas.Result.{err_from_is_err_and}
use Rattle.rv_play.specs.Scripted.{playing}
use Rattle.rv_play.proofs.Reading.{list_stands}
use Rattle.rv_play.proofs.acts.list_deed.Goals as goal

pub returns-in_err-list : goal.returns-in_err-list
returns-in_err-list c =
    let p = err_from_is_err_and c.from_residual.result c.from_residual.ensures.1 in
    rw (p.1, p.2) (list_stands c.args.line (playing c.args.player.now).stage c.args.text.now _ c.in_err-list.ensures)
