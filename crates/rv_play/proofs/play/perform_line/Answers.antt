use Rattle.std.proofs.Common.{◌≡◌, None, true, subst}
use Rattle.rv_text.specs.Words.{words, is_some_word}
use Rattle.rv_step.specs.StepText.{step_of, Fails}
use Rattle.rv_step.specs.declared.reading.StepError.{StepError}
use Rattle.rv_play.specs.Scripted.{playing}
use Rattle.rv_play.proofs.Performing.{no_step, line_unread}
use Rattle.rv_play.proofs.play.perform_line.Goals as goal

pub returns-in-Err-BadStep : goal.returns-in-Err-BadStep
returns-in-Err-BadStep g c =
    let some : is_some_word (words c.args.text.now) ≡ true = cc (c.has_words.ensures, c.if-not-has_words.false) in
    let none : step_of (words c.args.text.now) ≡ None = subst (λ (e : StepError). Fails e (step_of (words c.args.text.now))) c.in-Err-BadStep.field-0-is c.in-Err-BadStep.ensures in
    no_step (g.W.Write.contents c.args.writer.now) (playing c.args.player.now) c.args.line (words c.args.text.now) c.refused.result some none c.refused.ensures

pub returns-in-Err-NoMemory : goal.returns-in-Err-NoMemory
returns-in-Err-NoMemory g c = line_unread (g.W.Write.contents c.args.writer.now) (playing c.args.player.now) c.args.line (words c.args.text.now)
