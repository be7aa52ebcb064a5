use Rattle.std.proofs.lemmas.Result.{err_from_is_err_and}
use Rattle.rv_fault.proofs.Scripts.{script_refused, script_written}
use Rattle.rv_check.specs.Scripts.{outcome_when}
use Rattle.rv_check.proofs.reading.check_bytes.Goals as goal

pub returns-in_err-text : goal.returns-in_err-text
returns-in_err-text g c =
    let p = err_from_is_err_and c.from_residual.result c.from_residual.ensures.1 in
    rw (p.1, p.2) (script_refused (g.W.Write.contents c.args.writer.now) (outcome_when c.args.is_whole) c.args.bytes.now _ c.in_err-text.ensures.err)

pub returns : goal.returns
returns g c =
    script_written (g.W.Write.contents c.args.writer.now) (g.W.Write.contents c.check_given_text.new.writer) (outcome_when c.args.is_whole) c.args.bytes.now c.in_ok-text.text.now c.check_given_text.result c.in_ok-text.ensures.ok c.check_given_text.ensures
