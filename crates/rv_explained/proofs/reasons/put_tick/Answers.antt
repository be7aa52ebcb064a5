use Rattle.std.proofs.Common.{ℕ, List, [], ◌∷◌, ◌++◌, ap, ◌∙◌, codes}
use Rattle.std.proofs.lemmas.Result.{on_ok_weaker}
use Rattle.std.specs.Prelude.{string_bytes}
use Rattle.std.specs.Fmt.{decimal}
use Rattle.rv_event.specs.Past.{clock}
use Rattle.rv_history.specs.History.{version}
use Rattle.rv_explained.specs.Words.{force_text}
use Rattle.rv_explained.proofs.reasons.put_tick.Goals as goal

pub returns : goal.returns
returns c =
    let h = c.args.host.now in
    let old = string_bytes c.args.text.now in
    on_ok_weaker c.put_clock.result
    (λ put keeps. put
    ∙ ap (λ (n : ℕ). old ++ (codes "tick " ++ (decimal n ++ (codes ", " ++ (c.as_str.result.now ++ 10 ∷ []))))) c.clock.ensures
    ∙ ap (λ (t : List ℕ). old ++ (codes "tick " ++ (decimal (clock h.past) ++ (codes ", " ++ (t ++ 10 ∷ []))))) (c.as_str.ensures.value ∙ c.in_ok-force.ensures
    ∙ ap (λ (n : ℕ). force_text n c.list_entry.result) c.version.ensures ∙ ap (λ (n : ℕ). force_text (version h) n) (c.list_entry.ensures ∙ keeps.list_entry)))
    c.put_clock.ensures
