use Rattle.std.proofs.Common.{rules, ◌≡◌, ◌∙◌, sym}
use Rattle.std.specs.Prelude.{is_none, is_some}
use Rattle.rv_text.specs.Words.{words}
use Rattle.rv_step.specs.Ends.{exit_of}
use Rattle.rv_misread.proofs.Ends.{end_by_exit}
use Rattle.rv_misread.proofs.steps.end_reason.Goals as goal

pub returns : goal.returns
returns c =
    let by : is_some c.exit_reason.result ≡ is_none (exit_of (words c.in-Some.rest.now)) = search rules in
    by ∙ sym (end_by_exit (words c.args.line.now) _ c.in-Some.ensures)
