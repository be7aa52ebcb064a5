use Rattle.std.proofs.Common.{◌≡◌, ℕ, ◌+◌, List, ◌∷◌, ◌++◌, Ok, ap, sym, ◌∙◌, arith, rules, append_assoc}
use Rattle.std.proofs.lemmas.Result.{err_from_is_err_and}
use Rattle.std.specs.Str.Lines.{lines}
use Rattle.rv_text.specs.Words.{words}
use Rattle.rv_play.specs.Acts.{Act, line_acts, step_acts}
use Rattle.rv_play.proofs.Carrying.{carries_then, carries_fails}
use Rattle.rv_play.specs.Scripted.{playing}
use Rattle.rv_play.proofs.play.perform_all.Goals as goal

-- the lines that are left, with the first of them
with_first : (done : List Act) (number : ℕ) (rest : List (List ℕ)) (line : List ℕ) (after : List (List ℕ)) (whole : List Act) → rest ≡ line ∷ after → done ++ step_acts number rest ≡ whole → done ++ (line_acts number (words line) ++ step_acts (number + 1) after) ≡ whole
with_first done number rest line after whole e same = ap (λ (ls : List (List ℕ)). done ++ step_acts number ls) (sym e) ∙ same

pub returns-in_err-perform_line : goal.returns-in_err-perform_line
returns-in_err-perform_line g c =
    let p = err_from_is_err_and c.from_residual.result c.from_residual.ensures.1 in
    let inv = c.loop-text.invariant in
    rw (p.1, p.2) (carries_fails _ _ _ _ _ (playing c.perform_line.new.player) inv.done (line_acts (c.loop-text.line + 1) (words c.in-Some.text.now)) (step_acts (c.loop-text.line + 1 + 1) (lines c.in-Some.after.now)) _ _
    inv.carried c.in_err-perform_line.ensures
    (with_first inv.done (c.loop-text.line + 1) (lines c.loop-text.rest.now) c.in-Some.text.now (lines c.in-Some.after.now) _ c.in-Some.ensures.lines inv.all_acts))

pub loop-text-preserved : goal.loop-text-preserved
loop-text-preserved g c =
    let inv = c.loop-text.invariant in
    let now : List Act = line_acts (c.loop-text.line + 1) (words c.in-Some.text.now) in
    record {
      text = search rules;
      few = omega (arith, c.in-Some.ensures.shorter);
      done = inv.done ++ now;
      all_acts =
          append_assoc inv.done now (step_acts (c.loop-text.line + 1 + 1) (lines c.in-Some.after.now))
          ∙ with_first inv.done (c.loop-text.line + 1) (lines c.loop-text.rest.now) c.in-Some.text.now (lines c.in-Some.after.now) _ c.in-Some.ensures.lines inv.all_acts;
      carried = carries_then _ _ (g.W.Write.contents c.perform_line.new.writer) _ _ (playing c.perform_line.new.player) inv.done now (Ok tt) inv.carried c.in_ok-perform_line.ensures;
    }
