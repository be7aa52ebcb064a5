use Rattle.std.proofs.Common.{None, sym, subst}
use Rattle.std.proofs.lemmas.Result.{err_from_is_err_and}
use Rattle.rv_check.specs.Checks.{OfList, at_line, list_line}
use Rattle.rv_check.proofs.Checking.{said_one, list_read, list_told}
use Rattle.rv_check.proofs.sections.check_list.Goals as goal

pub returns : goal.returns
returns g c =
    said_one _ _ (at_line c.args.part.now.line (OfList c.args.part.now.text.now)) (list_line c.len.result) c.say.result
    (subst (λ n. OfList c.args.part.now.text.now (list_line n) None) (sym c.len.ensures) (list_read c.args.part.now.text.now _ c.in_ok-list.ensures)) (c.say.ensures _ c.list_line.ensures)

pub returns-in_err-list : goal.returns-in_err-list
returns-in_err-list g c =
    let p = err_from_is_err_and c.from_residual.result c.from_residual.ensures.1 in
    rw (p.1, p.2) (list_told c.args.part.now.text.now (g.W.Write.contents c.args.writer.now) c.args.part.now.line _ c.in_err-list.ensures)
