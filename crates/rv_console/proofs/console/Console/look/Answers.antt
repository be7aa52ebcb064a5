use Rattle.std.proofs.lemmas.Result.{err_from_is_err_and}
use Rattle.rv_console.proofs.Writing.{unviewed}
use Rattle.rv_console.proofs.console.Console.look.Goals as goal

pub returns-in_err-view-clause-err : goal.returns-in_err-view-clause-err
returns-in_err-view-clause-err g c =
    let p = err_from_is_err_and c.from_residual.result c.from_residual.ensures.1 in
    rw (p.1, p.2) (unviewed c.args.control.now c.view.new.self _ c.in_err-view.ensures.err)
