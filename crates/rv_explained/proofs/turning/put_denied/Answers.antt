use Rattle.std.proofs.Common.{ℕ, List, [], ◌∷◌, ◌++◌, Option, ap, ◌∙◌}
use Rattle.std.proofs.lemmas.Result.{on_ok_weaker}
use Rattle.std.specs.Prelude.{string_bytes}
use Rattle.rv_access.specs.Lines.{line_at}
use Rattle.rv_access.specs.Words.{Words}
use Rattle.rv_history.specs.History.{force}
use Rattle.rv_refused.specs.Refusals.{line_words}
use Rattle.rv_explained.specs.Explanations.{denied}
use Rattle.rv_explained.proofs.turning.put_denied.Goals as goal

pub returns : goal.returns
returns c =
    let h = c.args.host.now in
    let old = string_bytes c.args.text.now in
    on_ok_weaker c.put_text_line.result
    (λ put keeps. put
    ∙ ap (λ (t : List ℕ). old ++ (t ++ 10 ∷ [])) (c.as_str-2.ensures.value ∙ c.in_ok-denied.ensures
    ∙ ap (λ (w : List ℕ). denied w c.list_entry.result) (c.as_str.ensures.value ∙ c.in_ok-words.ensures ∙ ap (λ (l : Option Words). line_words l) c.line_in_force.ensures)
    ∙ ap (λ (n : ℕ). denied (line_words (line_at (force h) c.args.number)) n) (c.list_entry.ensures ∙ keeps.list_entry)))
    c.put_text_line.ensures
