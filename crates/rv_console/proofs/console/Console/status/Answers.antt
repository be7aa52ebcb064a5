use Rattle.std.proofs.Common.{◌≡◌, List, ℕ, subst, string_bytes, IfOk}
use Rattle.std.proofs.lemmas.Result.{err_from_is_err_and}
use Rattle.rv_behind.specs.Events.{catalogue_of}
use Rattle.rv_shape.specs.Shape.{Shape}
use Rattle.rv_console.specs.Cut.{cut_text}
use Rattle.rv_console.specs.Texts.{status_text}
use Rattle.rv_view.specs.Views.{Shown}
use Rattle.rv_console.proofs.Writing.{none_shown, shows_by}
use Rattle.rv_console.proofs.console.Console.status.Goals as goal

pub returns-in_err-view-clause-shows : goal.returns-in_err-view-clause-shows
returns-in_err-view-clause-shows g c = λ entries few t.
    let p = err_from_is_err_and c.from_residual.result c.from_residual.ensures.1 in
    rw (p.1, p.2) (none_shown (λ view. cut_text c.args.self.now.columns (status_text (catalogue_of c.look.new.control.seen) entries view)) (g.W.Write.contents c.args.writer.now) c.args.control.now c.look.new.control _ c.in_err-view.ensures.err)

pub returns-clause-shows : goal.returns-clause-shows
returns-clause-shows g c = λ entries few t.
    let shapes : List Shape = catalogue_of c.look.new.control.seen in
    let line : IfOk c.status_text-text.result (λ l. string_bytes l ≡ status_text shapes entries c.in_ok-view.view) =
    subst (λ (s : List Shape). IfOk c.status_text-text.result (λ l. string_bytes l ≡ status_text s entries c.in_ok-view.view)) c.catalogue.ensures (c.status_text-text.ensures entries few t) in
    let text : Shown → List ℕ = λ view. cut_text c.args.self.now.columns (status_text shapes entries view) in
    shows_by text _ _ c.args.control.now c.look.new.control c.in_ok-view.view _ c.in_ok-view.ensures.ok (c.put_cut.ensures (status_text shapes entries c.in_ok-view.view) line)
