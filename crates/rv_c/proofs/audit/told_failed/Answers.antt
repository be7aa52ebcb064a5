use Rattle.std.proofs.Common.{true, ℕ, List, [], Some, Err, Result, subst}
use Rattle.std.specs.Prelude.{Bool}
use Rattle.rv_fault.specs.declared.failure.Failure.{Failure}
use Rattle.rv_verdict.specs.Audits.{AuditsScript, SaysOfSection}
use Rattle.rv_c.specs.Said.{said_of}
use Rattle.rv_c.proofs.Verdicts.{verdict_refused, verdict_nothing}
use Rattle.rv_c.proofs.audit.told_failed.Goals as goal

pub returns-in-Refused : goal.returns-in-Refused
returns-in-Refused c script judged =
    let text : List ℕ = c.args.text.items in
    let here = subst (λ (f : Failure). let r : Result Bool Failure = Err f in AuditsScript true SaysOfSection (Some []) (Some text) script r) c.in-Refused.is judged in
    verdict_refused script text c.in-Refused.fault (said_of c.refused.result) here c.refused.ensures

pub returns-in-Memory : goal.returns-in-Memory
returns-in-Memory c script judged = verdict_nothing script (said_of c.nothing.result) c.nothing.ensures
