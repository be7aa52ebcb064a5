use Rattle.std.proofs.Common.{ℕ, List, [], ◌∷◌, ◌++◌, Option, sym, ap, subst, ◌∙◌, codes}
use Rattle.std.proofs.lemmas.Result.{on_ok_weaker}
use Rattle.std.specs.Prelude.{string_bytes}
use Rattle.rv_access.specs.Lines.{line_at}
use Rattle.rv_access.specs.Words.{Words}
use Rattle.rv_history.specs.History.{force}
use Rattle.rv_grants.specs.Grants.{decision_text}
use Rattle.rv_asked.specs.Asked.{line_by}
use Rattle.rv_asked.specs.Holding.{Keeps}
use Rattle.rv_asked.specs.declared.holding.Holding.{Holding}
use Rattle.rv_explained.proofs.refusals.put_decided.Goals as goal

pub returns : goal.returns
returns c =
    let h = c.args.host.now in
    let old = string_bytes c.args.text.now in
    on_ok_weaker c.put_decision.result
    (λ put keeps.
    let kept : Keeps c.holding-holding.result.now h.shapes h.past = subst (λ (x : Holding). Keeps x h.shapes h.past) (sym c.holding-holding.ensures) keeps.holding in
    put
    ∙ ap (λ (t : List ℕ). old ++ (codes "rule 1 (own): " ++ (t ++ (codes ", for " ++ (c.subject.result.now ++ 10 ∷ []))))) (c.as_str.ensures.value ∙ c.in_ok-decision.ensures
    ∙ ap (λ (l : Option Words). decision_text l) (c.line_in_force.ensures ∙ ap (λ (n : ℕ). line_at (force h) n) (c.decided_in_force-number.ensures kept)))
    ∙ ap (λ (t : List ℕ). old ++ (codes "rule 1 (own): " ++ (decision_text (line_by (force h) h c.args.call.now) ++ (codes ", for " ++ (t ++ 10 ∷ []))))) (c.subject.ensures h c.catalogue.ensures kept))
    c.put_decision.ensures
