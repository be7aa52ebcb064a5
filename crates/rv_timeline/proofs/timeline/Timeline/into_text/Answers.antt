use Rattle.std.proofs.Common.{◌∙◌}
use Rattle.std.proofs.lemmas.Result.{IfOk-weaker}
use Rattle.rv_timeline.proofs.Looking.{all_shown}
use Rattle.rv_timeline.proofs.timeline.Timeline.into_text.Goals as goal

pub returns : goal.returns
returns c = λ wish h names follows.
    IfOk-weaker c.drawn.result _ _
    (λ text said. said ∙ all_shown wish c.args.self c.add_lasting.new.self h c.args.catalogue.now c.as_slice.result.now c.as_slice-2.result.now names follows c.in_ok-add_lasting.ensures.bars c.add_lasting.ensures.wish c.add_lasting.ensures.moments c.as_slice.ensures.value c.as_slice-2.ensures.value) c.drawn.ensures
