use Rattle.std.proofs.Common.{ℕ, suc, ◌++◌, ◌-◌, length, ap, ◌∙◌, codes}
use Rattle.std.proofs.lemmas.Result.{on_ok_weaker}
use Rattle.std.specs.Prelude.{string_bytes}
use Rattle.std.specs.Fmt.{decimal}
use Rattle.rv_export.proofs.facts.put_answer.Goals as goal

pub returns : goal.returns
returns c =
    let old = string_bytes c.args.text.now in
    let it = c.args.it.now in
    on_ok_weaker c.put_distance.result
    (λ put number_is. put
    ∙ ap (λ (n : ℕ). old ++ (codes ",\"answers\":" ++ (decimal it.number ++ (codes ",\"entries\":" ++ (decimal n ++ (codes ",\"ticks\":" ++ decimal c.saturating_sub-ticks.result)))))) (c.saturating_sub-entries.ensures ∙ ap (λ (n : ℕ). n - it.number) number_is)
    ∙ ap (λ (n : ℕ). old ++ (codes ",\"answers\":" ++ (decimal it.number ++ (codes ",\"entries\":" ++ (decimal (suc (length c.args.host.now.past) - it.number) ++ (codes ",\"ticks\":" ++ decimal n)))))) (c.saturating_sub-ticks.ensures ∙ ap (λ (n : ℕ). n - it.tick) c.clock.ensures))
    c.put_distance.ensures
