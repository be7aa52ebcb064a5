use Rattle.std.proofs.Common.{ℕ, List, ◌++◌, ap, ◌∙◌, codes}
use Rattle.std.proofs.lemmas.Result.{on_ok_weaker}
use Rattle.std.specs.Prelude.{string_bytes}
use Rattle.std.specs.Fmt.{decimal}
use Rattle.rv_access.specs.Lines.{line_at}
use Rattle.rv_history.specs.History.{force}
use Rattle.rv_history.specs.Subject.{subject}
use Rattle.rv_refused.specs.Refusals.{line_words}
use Rattle.rv_export.proofs.facts.put_decision_of.Goals as goal

abbrev fields : List ℕ → ℕ → List ℕ → List ℕ
fields who number line = codes ",\"subject\":\"" ++ (who ++ (codes "\",\"line\":" ++ (decimal number ++ (codes ",\"line_text\":\"" ++ (line ++ codes "\"")))))

pub returns : goal.returns
returns c =
    let h = c.args.host.now in
    let old = string_bytes c.args.text.now in
    let call = c.args.call.now in
    on_ok_weaker c.put_decision.result
    (λ put said keeps. put
    ∙ ap (λ (t : List ℕ). old ++ fields t c.decided-number.result c.line.result.now) (c.subject-subject.ensures h c.catalogue.ensures keeps)
    ∙ ap (λ (t : List ℕ). old ++ fields (subject h call.actor) c.decided-number.result t) (c.line.ensures h said)
    ∙ ap (λ (n : ℕ). old ++ fields (subject h call.actor) n (line_words (line_at (force h) n))) (c.decided-number.ensures said keeps))
    c.put_decision.ensures
