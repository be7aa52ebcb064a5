use Rattle.std.proofs.Common.{◌∙◌, sym}
use Rattle.rv_text.specs.Words.{words}
use Rattle.rv_access.specs.Reading.{named}
use Rattle.rv_misread.proofs.Windows.{bad_names, good_names}
use Rattle.rv_misread.proofs.lists.windowed_reason.Goals as goal

pub returns-in-Some-clause-agrees : goal.returns-in-Some-clause-agrees
returns-in-Some-clause-agrees c =
    λ number allow.
    bad_names number (words c.args.window.now) _ (named number allow c.args.unit.now c.args.object.now c.args.operation.now) _
    c.in-Ok.ensures.phrase (c.in-Some.ensures.agrees number allow)

pub returns-in-None-clause-agrees : goal.returns-in-None-clause-agrees
returns-in-None-clause-agrees c =
    λ number allow.
    c.window_reason.ensures.agrees number c.in-Ok.phrase.from.now c.in-Ok.phrase.until.now
    ∙ sym
    (good_names number (words c.args.window.now) _ (named number allow c.args.unit.now c.args.object.now c.args.operation.now)
    c.in-Ok.ensures.phrase (c.in-None.ensures.agrees number allow))
