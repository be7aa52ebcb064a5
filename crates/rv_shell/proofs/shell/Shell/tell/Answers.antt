use Rattle.std.proofs.Common.{◌≡◌, List, ℕ, subst, string_bytes, IfOk}
use Rattle.rv_shape.specs.Shape.{Shape}
use Rattle.rv_behind.specs.Events.{catalogue_of}
use Rattle.rv_shell.specs.Serving.{answer_line}
use Rattle.rv_shell.proofs.shell.Shell.tell.Goals as goal

pub returns-in-Ok : goal.returns-in-Ok
returns-in-Ok g c =
    let bytes : List ℕ = answer_line (catalogue_of c.args.control.now.seen) c.in-Ok.answer in
    let line : IfOk c.answer_line-line.result (λ l. string_bytes l ≡ bytes) =
    subst (λ (shapes : List Shape). IfOk c.answer_line-line.result (λ l. string_bytes l ≡ answer_line shapes c.in-Ok.answer)) c.catalogue.ensures c.answer_line-line.ensures in
    rw c.in-Ok.is (c.put_made.ensures bytes line)
