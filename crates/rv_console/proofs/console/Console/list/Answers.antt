use Rattle.std.proofs.Common.{List, ℕ}
use Rattle.std.proofs.lemmas.Result.{err_from_is_err_and}
use Rattle.rv_console.specs.Cut.{cut_text}
use Rattle.rv_console.specs.Texts.{list_text}
use Rattle.rv_view.specs.Views.{Shown}
use Rattle.rv_console.proofs.Writing.{none_shown, shows_by}
use Rattle.rv_console.proofs.console.Console.list.Goals as goal

pub returns-in_err-view-clause-shows : goal.returns-in_err-view-clause-shows
returns-in_err-view-clause-shows g c =
    let p = err_from_is_err_and c.from_residual.result c.from_residual.ensures.1 in
    rw (p.1, p.2) (none_shown (λ view. cut_text c.args.self.now.columns (list_text view)) (g.W.Write.contents c.args.writer.now) c.args.control.now c.look.new.control _ c.in_err-view.ensures.err)

pub returns-clause-shows : goal.returns-clause-shows
returns-clause-shows g c =
    let text : Shown → List ℕ = λ view. cut_text c.args.self.now.columns (list_text view) in
    shows_by text _ _ c.args.control.now c.look.new.control c.in_ok-view.view _ c.in_ok-view.ensures.ok (c.put_cut.ensures (list_text c.in_ok-view.view) c.list_text-text.ensures)
