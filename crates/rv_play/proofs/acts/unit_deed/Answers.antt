use Rattle.std.proofs.lemmas.Result.{err_from_is_err_and}
use Rattle.rv_script.specs.UnitTexts.{without_returns}
use Rattle.rv_play.specs.Scripted.{playing}
use Rattle.rv_play.proofs.Reading.{unit_stands_over}
use Rattle.rv_play.proofs.acts.unit_deed.Goals as goal

pub returns-in_err-unit : goal.returns-in_err-unit
returns-in_err-unit c =
    let p = err_from_is_err_and c.from_residual.result c.from_residual.ensures.1 in
    rw (p.1, p.2) (unit_stands_over c.args.line (playing c.args.player.now).stage c.catalogue.result.now (without_returns c.args.text.now) _ c.catalogue.ensures c.in_err-unit.ensures)
