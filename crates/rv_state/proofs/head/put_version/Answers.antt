use Rattle.std.proofs.Common.{ℕ, [], ◌∷◌, ◌++◌, ap, ◌∙◌, codes}
use Rattle.std.proofs.lemmas.Result.{on_ok_weaker}
use Rattle.std.specs.Prelude.{string_bytes}
use Rattle.std.specs.Fmt.{decimal}
use Rattle.rv_history.specs.History.{version}
use Rattle.rv_state.proofs.head.put_version.Goals as goal

pub returns : goal.returns
returns c =
    on_ok_weaker c.put_counts.result
    (λ e. e
    ∙ ap (λ (n : ℕ). string_bytes c.args.text.now ++ (codes "list version " ++ (decimal n ++ (codes ", lines " ++ (decimal c.lines-lines.result ++ 10 ∷ []))))) c.version-version.ensures
    ∙ ap (λ (n : ℕ). string_bytes c.args.text.now ++ (codes "list version " ++ (decimal (version c.args.host.now) ++ (codes ", lines " ++ (decimal n ++ 10 ∷ []))))) c.lines-lines.ensures)
    c.put_counts.ensures
