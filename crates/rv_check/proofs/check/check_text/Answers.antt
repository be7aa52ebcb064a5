use Rattle.std.proofs.lemmas.Result.{err_from_is_err_and}
use Rattle.rv_check.specs.Checks.{checking}
use Rattle.rv_check.proofs.Checked.{settings_told}
use Rattle.rv_check.proofs.check.check_text.Goals as goal

pub returns-in_err-_settings : goal.returns-in_err-_settings
returns-in_err-_settings g c =
    let p = err_from_is_err_and c.from_residual.result c.from_residual.ensures.1 in
    rw (p.1, p.2) (settings_told (λ script settings. checking) c.args.text.now (g.W.Write.contents c.args.writer.now) _ _ c.in-Ok.ensures.ok c.in_err-_settings.ensures)
