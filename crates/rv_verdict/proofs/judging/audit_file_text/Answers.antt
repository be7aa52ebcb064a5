use Rattle.std.proofs.Common.{List, subst, false}
use Rattle.std.proofs.lemmas.Result.{err_from_is_err_and}
use Rattle.rv_shape.specs.Shape.{Shape}
use Rattle.rv_verdict.specs.Audits.{SaysOfBytes, SaysOfFile}
use Rattle.rv_verdict.specs.Brought.{Brought}
use Rattle.rv_verdict.proofs.Telling.{file_never}
use Rattle.rv_verdict.proofs.Wholly.{nothing_brought, said_of}
use Rattle.rv_verdict.proofs.judging.audit_file_text.Goals as goal

pub returns-in_err-limits : goal.returns-in_err-limits
returns-in_err-limits g c =
    let p = err_from_is_err_and c.from_residual.result c.from_residual.ensures.1 in
    rw (p.1, p.2) (nothing_brought false (SaysOfFile (g.J.Read.remaining c.args.journal.now) c.args.takes_torn) (g.W.Write.contents c.args.writer.now) c.args.text.now _ c.in_err-limits.ensures)

pub returns : goal.returns
returns g c =
    let journal = g.J.Read.remaining c.args.journal.now in
    let old = g.W.Write.contents c.args.writer.now in
    let new = g.W.Write.contents c.audit_lines.new.writer in
    let it : Brought = record { limits = c.in_ok-limits.limits; units = c.in_ok-limits.given.units; journal = c.in_ok-limits.given.journal } in
    said_of false (SaysOfFile journal c.args.takes_torn) old new c.args.text.now it c.audit_lines.result (file_never journal c.args.takes_torn) c.in_ok-limits.ensures.1
    (subst (λ (units : List Shape). SaysOfBytes journal c.args.takes_torn old new c.in_ok-limits.limits units c.audit_lines.result) c.units.ensures c.audit_lines.ensures.says)
