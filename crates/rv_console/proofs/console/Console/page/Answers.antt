use Rattle.std.proofs.Common.{◌≡◌, ◌∙◌, List, ℕ, ap, subst, string_bytes, IfOk}
use Rattle.std.proofs.lemmas.Result.{err_from_is_err_and}
use Rattle.rv_behind.specs.Events.{catalogue_of}
use Rattle.rv_keep.specs.PageText.{page_text}
use Rattle.rv_shape.specs.Shape.{Shape}
use Rattle.rv_console.specs.Console.{behind_page}
use Rattle.rv_console.specs.Screen.{Screen}
use Rattle.rv_console.proofs.Turning.{turned, unturned}
use Rattle.rv_console.proofs.console.Console.page.Goals as goal
use Rattle.rv_shell.proofs.Serving.{page_fails, pages_by}

pub returns-in_err-entries-clause-reads : goal.returns-in_err-entries-clause-reads
returns-in_err-entries-clause-reads g c =
    let p = err_from_is_err_and c.from_residual.result c.from_residual.ensures.1 in
    rw (p.1, p.2) (page_fails (g.W.Write.contents c.args.writer.now) c.args.control.now c.entries.new.self c.args.from _ c.in_err-entries.ensures.fault)

pub returns-in_err-entries-clause-turns : goal.returns-in_err-entries-clause-turns
returns-in_err-entries-clause-turns g c =
    let p = err_from_is_err_and c.from_residual.result c.from_residual.ensures.1 in
    rw (p.1, p.2) (unturned c.args.self.now.next c.args.from c.args.control.now c.entries.new.self _)

pub returns-clause-reads : goal.returns-clause-reads
returns-clause-reads g c =
    let bytes : List ℕ = page_text (catalogue_of c.entries.new.self.seen) c.args.from c.entries.new.into in
    let line : IfOk c.page_text-text.result (λ l. string_bytes l ≡ bytes) =
    subst (λ (shapes : List Shape). IfOk c.page_text-text.result (λ l. string_bytes l ≡ page_text shapes c.args.from c.entries.new.into)) c.catalogue.ensures c.page_text-text.ensures in
    pages_by _ _ c.args.control.now c.entries.new.self c.args.from c.entries.new.into _ c.in_ok-entries.ensures.ok (c.put_made.ensures bytes line)

pub returns-clause-turns : goal.returns-clause-turns
returns-clause-turns g c =
    let bytes : List ℕ = page_text (catalogue_of c.entries.new.self.seen) c.args.from c.entries.new.into in
    let line : IfOk c.page_text-text.result (λ l. string_bytes l ≡ bytes) =
    subst (λ (shapes : List Shape). IfOk c.page_text-text.result (λ l. string_bytes l ≡ page_text shapes c.args.from c.entries.new.into)) c.catalogue.ensures c.page_text-text.ensures in
    let next = c.behind_page-self-inside.ensures ∙ ap (λ (s : Screen). behind_page s.next c.args.from c.entries.new.into) c.self.view_is in
    turned _ _ bytes c.args.self.now.next c.args.from c.args.control.now c.entries.new.self _ _ (c.put_made.ensures bytes line)
    (c.entries.new.into, c.in_ok-entries.ensures.ok, next)
