use Rattle.std.proofs.Common.{refl, sym, ◌∙◌}
use Rattle.std.proofs.lemmas.Result.{on_ok_weaker}
use Rattle.rv_ends.proofs.Counting.{took_entry, took_nothing}
use Rattle.rv_ends.proofs.tally.Tally.after.Goals as goal

pub returns-then-not-goes_on : goal.returns-then-not-goes_on
returns-then-not-goes_on c =
    took_nothing c.args.self.now c.args.host.now c.args.actor c.args.request.now c.args.answer.now (sym c.goes_on.ensures ∙ c.if-not-goes_on.true)

pub returns : goal.returns
returns c =
    on_ok_weaker c.take.result
    (λ whole. took_entry c.args.self.now (record c.args.self.now { ends = c.take.new.self }) c.args.host.now c.args.actor c.args.request.now c.args.answer.now
    (sym c.goes_on.ensures ∙ c.if-not-goes_on.false) whole refl refl c.take.ensures.texts) c.take.ensures.whole
