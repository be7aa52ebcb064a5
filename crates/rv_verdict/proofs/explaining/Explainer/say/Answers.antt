use Rattle.std.proofs.Common.{◌∙◌}
use Rattle.std.proofs.lemmas.Result.{err_from_is_err_and}
use Rattle.rv_fault.specs.declared.failure.Failure.TheVariants.{Memory}
use Rattle.rv_verdict.proofs.EndsSaid.{ends_broken, ends_fail, ends_said, its_line}
use Rattle.rv_verdict.proofs.explaining.Explainer.say.Goals as goal

pub returns-in_err-line : goal.returns-in_err-line
returns-in_err-line g c = λ units terms h follows.
    let p = err_from_is_err_and c.from_residual.result c.from_residual.ensures.1 in
    rw (p.1, p.2) (ends_fail units terms h (g.W.Write.contents c.args.writer.now) Memory tt)

pub returns-in_err-put : goal.returns-in_err-put
returns-in_err-put g c = λ units terms h follows.
    let p = err_from_is_err_and c.from_residual-in_err-put.result c.from_residual-in_err-put.ensures.1 in
    let tally = c.args.self.now.tally in
    let line = its_line tally c.found.result c.as_str.result.now c.words.result.now c.found.ensures c.words.ensures (λ shapes words. c.as_str.ensures.value ∙ c.in_ok-line.ensures shapes words) in
    rw (p.1, p.2) (ends_broken units terms tally h (g.W.Write.contents c.args.writer.now) (g.W.Write.contents c.put.new.writer) c.as_str.result.now _ follows line c.in_err-put.ensures)

pub returns : goal.returns
returns g c = λ units terms h follows.
    let tally = c.args.self.now.tally in
    let line = its_line tally c.found.result c.as_str.result.now c.words.result.now c.found.ensures c.words.ensures (λ shapes words. c.as_str.ensures.value ∙ c.in_ok-line.ensures shapes words) in
    ends_said units terms tally h (g.W.Write.contents c.args.writer.now) (g.W.Write.contents c.put.new.writer) c.as_str.result.now c.goes_on.result follows line c.goes_on.ensures c.in_ok-put.ensures
