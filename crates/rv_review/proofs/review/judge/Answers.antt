use Rattle.std.proofs.Common.{List, sym, subst, ◌∙◌}
use Rattle.std.proofs.lemmas.Result.{err_from_is_err_and}
use Rattle.rv_shape.specs.Shape.{Shape}
use Rattle.rv_fault.specs.declared.failure.Failure.TheVariants.{Io}
use Rattle.rv_audit.specs.Lines.{Found}
use Rattle.rv_history.specs.History.{History}
use Rattle.rv_audit.proofs.ReadLines.{at_first}
use Rattle.rv_verdict.proofs.Telling.{file_fails}
use Rattle.rv_review.proofs.Judged.{failed, fails_first, legal_broken, legal_said, other_broken, other_said}
use Rattle.rv_review.proofs.review.judge.Goals as goal

pub returns-in_err-audit : goal.returns-in_err-audit
returns-in_err-audit g c = λ begins.
    let p = err_from_is_err_and c.from_residual.result c.from_residual.ensures.1 in
    rw (p.1, p.2) (fails_first (g.O.Review.says c.args.observer) (g.J.Read.remaining c.args.journal.now) c.args.takes_torn (g.W.Write.contents c.args.writer.now) c.args.limits c.args.units.now _ c.in_err-audit.ensures.err)

pub returns-in_err-verdict : goal.returns-in_err-verdict
returns-in_err-verdict g c = λ begins.
    let p = err_from_is_err_and c.from_residual-in_err-verdict.result c.from_residual-in_err-verdict.ensures.1 in
    rw (p.1, p.2) (failed (g.O.Review.says c.args.observer) (g.J.Read.remaining c.args.journal.now) c.args.takes_torn (g.W.Write.contents c.args.writer.now) (g.W.Write.contents c.args.writer.now) c.args.limits c.args.units.now (Io c.in_err-verdict.field-0.0)
    (file_fails (g.J.Read.remaining c.args.journal.now) c.args.takes_torn (g.W.Write.contents c.args.writer.now) c.args.limits c.args.units.now (Io c.in_err-verdict.field-0.0) tt))

pub returns-in_err-put_text : goal.returns-in_err-put_text
returns-in_err-put_text g c = λ begins.
    let p = err_from_is_err_and c.from_residual-in_err-put_text.result c.from_residual-in_err-put_text.ensures.1 in
    let limits = c.args.limits in
    let units = c.args.units.now in
    let torn = c.args.takes_torn in
    let journal = g.J.Read.remaining c.args.journal.now in
    let old = g.W.Write.contents c.args.writer.now in
    let come = at_first limits units torn journal c.in_ok-audit.audit c.requires.least c.requires.most c.requires.queue c.in_ok-audit.ensures.ok in
    let new = g.W.Write.contents c.put_text.new.writer in
    let first = subst (λ (h : History). g.O.Observer.follows c.args.observer c.args.observer units h) (sym c.in_ok-audit.ensures.ok) begins in
    let is = sym c.is_legal.ensures ∙ c.if-is_legal.true in
    let found = c.in_ok-verdict.ensures.journal limits come in
    let follows = c.in_ok-verdict.ensures.follows c.args.observer first in
    rw (p.1, p.2) (legal_broken (g.O.Review.says c.args.observer) (g.O.Observer.follows c.args.observer c.judge_lines.new.observer units) journal torn old new limits units c.judge_lines.new.audit c.in_ok-verdict.verdict c.in_ok-verdict.torn c.in_err-put_text.field-0.0 is found follows
    (λ holds. c.in_err-put_text.ensures c.args.observer units c.judge_lines.new.audit c.catalogue.ensures holds))

pub returns-then-is_legal : goal.returns-then-is_legal
returns-then-is_legal g c = λ begins.
    let limits = c.args.limits in
    let units = c.args.units.now in
    let torn = c.args.takes_torn in
    let journal = g.J.Read.remaining c.args.journal.now in
    let old = g.W.Write.contents c.args.writer.now in
    let come = at_first limits units torn journal c.in_ok-audit.audit c.requires.least c.requires.most c.requires.queue c.in_ok-audit.ensures.ok in
    let new = g.W.Write.contents c.put_text.new.writer in
    let first = subst (λ (h : History). g.O.Observer.follows c.args.observer c.args.observer units h) (sym c.in_ok-audit.ensures.ok) begins in
    let is = sym c.is_legal.ensures ∙ c.if-is_legal.true in
    let found = c.in_ok-verdict.ensures.journal limits come in
    let follows = c.in_ok-verdict.ensures.follows c.args.observer first in
    legal_said (g.O.Review.says c.args.observer) (g.O.Observer.follows c.args.observer c.judge_lines.new.observer units) journal torn old new limits units c.judge_lines.new.audit c.in_ok-verdict.verdict c.in_ok-verdict.torn is found follows
    (λ holds. c.in_ok-put_text.ensures c.args.observer units c.judge_lines.new.audit c.catalogue.ensures holds)

pub returns-in_err-is_legal : goal.returns-in_err-is_legal
returns-in_err-is_legal g c = λ begins.
    let p = err_from_is_err_and c.from_residual-in_err-is_legal.result c.from_residual-in_err-is_legal.ensures.1 in
    let limits = c.args.limits in
    let units = c.args.units.now in
    let torn = c.args.takes_torn in
    let journal = g.J.Read.remaining c.args.journal.now in
    let old = g.W.Write.contents c.args.writer.now in
    let come = at_first limits units torn journal c.in_ok-audit.audit c.requires.least c.requires.most c.requires.queue c.in_ok-audit.ensures.ok in
    let new = g.W.Write.contents c.say.new.writer in
    let found = c.in_ok-verdict.ensures.found limits come in
    let named = subst (λ (shapes : List Shape). Found limits units torn journal shapes (c.in_ok-verdict.verdict, c.in_ok-verdict.torn)) (sym c.catalogue-2.ensures) found in
    rw (p.1, p.2) (other_broken (g.O.Review.says c.args.observer) journal torn old new limits units c.catalogue-2.result.now c.in_ok-verdict.verdict c.in_ok-verdict.torn c.in_err-is_legal.field-0.0 named c.in_err-is_legal.ensures)

pub returns : goal.returns
returns g c = λ begins.
    let limits = c.args.limits in
    let units = c.args.units.now in
    let torn = c.args.takes_torn in
    let journal = g.J.Read.remaining c.args.journal.now in
    let old = g.W.Write.contents c.args.writer.now in
    let come = at_first limits units torn journal c.in_ok-audit.audit c.requires.least c.requires.most c.requires.queue c.in_ok-audit.ensures.ok in
    let new = g.W.Write.contents c.say.new.writer in
    let found = c.in_ok-verdict.ensures.found limits come in
    let named = subst (λ (shapes : List Shape). Found limits units torn journal shapes (c.in_ok-verdict.verdict, c.in_ok-verdict.torn)) (sym c.catalogue-2.ensures) found in
    other_said (g.O.Review.says c.args.observer) journal torn old new limits units c.catalogue-2.result.now c.in_ok-verdict.verdict c.in_ok-verdict.torn c.in_ok-is_legal.is_legal (sym c.is_legal.ensures ∙ c.if-is_legal.false) named c.in_ok-is_legal.ensures
