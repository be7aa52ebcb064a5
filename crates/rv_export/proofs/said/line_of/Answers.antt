use Rattle.std.proofs.Common.{ℕ, ◌-◌, Some, None, ap, sym, ◌∙◌}
use Rattle.rv_access.specs.Lines.{line_at}
use Rattle.rv_refused.specs.Refusals.{line_words}
use Rattle.rv_export.proofs.Finding.{get_none, get_some, line_found}
use Rattle.rv_export.proofs.said.line_of.Goals as goal

pub returns-then-number-eq0 : goal.returns-then-number-eq0
returns-then-number-eq0 c = λ list same. ap (λ (n : ℕ). line_words (line_at list n)) (sym c.if-number-eq0.true)

pub returns-in-Some : goal.returns-in-Some
returns-in-Some c = λ list same. c.as_str.ensures.value ∙ line_found c.args.lines.now list c.args.number (Some c.in-Some.words.now) c.if-number-eq0.false same (get_some c.args.lines.now (c.args.number - 1) c.in-Some.words.now c.in-Some.ensures.lookup.3.0 c.in-Some.ensures.lookup.1)

pub returns-in-None : goal.returns-in-None
returns-in-None c = λ list same. line_found c.args.lines.now list c.args.number None c.if-number-eq0.false same (get_none c.args.lines.now (c.args.number - 1) c.in-None.ensures.lookup.3)
