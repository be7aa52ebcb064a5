use Rattle.std.proofs.Common.{List, sym, subst}
use Rattle.std.proofs.lemmas.Result.{err_from_is_err_and}
use Rattle.rv_shape.specs.Shape.{Shape}
use Rattle.rv_fault.specs.Written.{IsNoFault}
use Rattle.rv_fault.specs.declared.failure.Failure.TheVariants.{Io}
use Rattle.rv_audit.specs.Lines.{Found}
use Rattle.rv_history.specs.History.{History}
use Rattle.rv_verdict.proofs.Ending.{followed}
use Rattle.rv_audit.proofs.ReadLines.{at_first}
use Rattle.rv_verdict.proofs.Telling.{file_broken, file_fails, file_said}
use Rattle.rv_verdict.proofs.judging.audit_lines.Goals as goal

pub returns-in_err-audit-clause-says : goal.returns-in_err-audit-clause-says
returns-in_err-audit-clause-says g c =
    let p = err_from_is_err_and c.from_residual.result c.from_residual.ensures.1 in
    rw (p.1, p.2) (file_fails (g.J.Read.remaining c.args.journal.now) c.args.takes_torn (g.W.Write.contents c.args.writer.now) c.args.limits c.args.units.now c.in_err-audit.field-0.0 (subst IsNoFault (sym c.in_err-audit.ensures.err) tt))

pub returns-in_err-verdict-clause-says : goal.returns-in_err-verdict-clause-says
returns-in_err-verdict-clause-says g c =
    let p = err_from_is_err_and c.from_residual-in_err-verdict.result c.from_residual-in_err-verdict.ensures.1 in
    rw (p.1, p.2) (file_fails (g.J.Read.remaining c.args.journal.now) c.args.takes_torn (g.W.Write.contents c.args.writer.now) c.args.limits c.args.units.now (Io c.in_err-verdict.field-0.0) tt)

pub returns-in_err-is_legal-clause-says : goal.returns-in_err-is_legal-clause-says
returns-in_err-is_legal-clause-says g c =
    let p = err_from_is_err_and c.from_residual-in_err-is_legal.result c.from_residual-in_err-is_legal.ensures.1 in
    let old = g.W.Write.contents c.args.writer.now in
    let new = g.W.Write.contents c.say.new.writer in
    let journal = g.J.Read.remaining c.args.journal.now in
    let found = c.in_ok-verdict.ensures.found c.args.limits (at_first c.args.limits c.args.units.now c.args.takes_torn journal c.in_ok-audit.audit c.requires.least c.requires.most c.requires.queue c.in_ok-audit.ensures.ok) in
    let named = subst (λ (shapes : List Shape). Found c.args.limits c.args.units.now c.args.takes_torn journal shapes (c.in_ok-verdict.verdict, c.in_ok-verdict.torn)) (sym c.catalogue.ensures) found in
    rw (p.1, p.2) (file_broken journal c.args.takes_torn old new c.args.limits c.args.units.now c.catalogue.result.now c.in_ok-verdict.verdict c.in_ok-verdict.torn c.in_err-is_legal.field-0.0 named c.in_err-is_legal.ensures)

pub returns-clause-says : goal.returns-clause-says
returns-clause-says g c =
    let old = g.W.Write.contents c.args.writer.now in
    let new = g.W.Write.contents c.say.new.writer in
    let journal = g.J.Read.remaining c.args.journal.now in
    let found = c.in_ok-verdict.ensures.found c.args.limits (at_first c.args.limits c.args.units.now c.args.takes_torn journal c.in_ok-audit.audit c.requires.least c.requires.most c.requires.queue c.in_ok-audit.ensures.ok) in
    let named = subst (λ (shapes : List Shape). Found c.args.limits c.args.units.now c.args.takes_torn journal shapes (c.in_ok-verdict.verdict, c.in_ok-verdict.torn)) (sym c.catalogue.ensures) found in
    file_said journal c.args.takes_torn old new c.args.limits c.args.units.now c.catalogue.result.now c.in_ok-verdict.verdict c.in_ok-verdict.torn c.in_ok-is_legal.is_legal named c.in_ok-is_legal.ensures

pub returns-clause-follows : goal.returns-clause-follows
returns-clause-follows g c = λ begun starts is.
    let limits = c.args.limits in
    let journal = g.J.Read.remaining c.args.journal.now in
    let units = c.args.units.now in
    let first = subst (λ (h : History). g.O.Observer.follows begun c.args.observer.now units h) (sym c.in_ok-audit.ensures.ok) starts in
    let come = at_first limits units c.args.takes_torn journal c.in_ok-audit.audit c.requires.least c.requires.most c.requires.queue c.in_ok-audit.ensures.ok in
    followed journal c.args.takes_torn limits units c.in_ok-verdict.torn (g.O.Observer.follows begun c.judge_lines.new.observer units) c.judge_lines.new.audit c.in_ok-verdict.verdict c.in_ok-is_legal.is_legal
    c.in_ok-is_legal.ensures.1 is (c.in_ok-verdict.ensures.journal limits come) (c.in_ok-verdict.ensures.follows begun first)
