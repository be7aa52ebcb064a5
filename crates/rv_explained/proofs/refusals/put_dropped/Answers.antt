use Rattle.std.proofs.Common.{ℕ, List, [], ◌∷◌, ◌++◌, ap, ◌∙◌, codes}
use Rattle.std.proofs.lemmas.Result.{on_ok_weaker}
use Rattle.std.specs.Prelude.{string_bytes}
use Rattle.std.specs.Fmt.{decimal}
use Rattle.rv_refused.specs.Refusals.{dropping_words}
use Rattle.rv_explained.specs.Explanations.{denied}
use Rattle.rv_explained.specs.Ties.{drop_list}
use Rattle.rv_explained.proofs.refusals.put_dropped.Goals as goal

pub returns : goal.returns
returns c =
    let old = string_bytes c.args.text.now in
    let a = c.args.actor in
    on_ok_weaker c.put_drop.result
    (λ put past lists keeps. put
    ∙ ap (λ (t : List ℕ). old ++ (t ++ (codes ", when entry " ++ (decimal c.number.result ++ (codes " dropped its call" ++ 10 ∷ []))))) (c.as_str.ensures.value ∙ c.in_ok-denied.ensures
    ∙ ap (λ (w : List ℕ). denied w c.list_entry.result) (c.line.ensures past lists keeps) ∙ ap (λ (n : ℕ). denied (dropping_words a past lists) n) (c.list_entry.ensures past lists keeps))
    ∙ ap (λ (n : ℕ). old ++ (denied (dropping_words a past lists) (drop_list a past) ++ (codes ", when entry " ++ (decimal n ++ (codes " dropped its call" ++ 10 ∷ []))))) (c.number.ensures past lists keeps))
    c.put_drop.ensures
