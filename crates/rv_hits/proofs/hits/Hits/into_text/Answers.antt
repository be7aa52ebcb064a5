use Rattle.std.proofs.Common.{◌∙◌, ◌++◌, ap, List, ℕ, map, codes}
use Rattle.std.specs.Prelude.{String, string_bytes}
use Rattle.rv_tallied.specs.Tallies.{kept_for, rows_text}
use Rattle.rv_hits.proofs.Looking.{all_said}
use Rattle.rv_hits.proofs.hits.Hits.into_text.Goals as goal

pub returns : goal.returns
returns c = λ filter h follows.
    let kept = c.join.new.self.tallies in
    all_said filter c.args.self c.join.new.self h (string_bytes c.put_rows.new.text) (string_bytes c.put_row.new.text) follows.gathers c.in_ok-join.ensures
    (c.in_ok-put_rows.ensures ∙ ap (λ (bs : List ℕ). bs ++ rows_text (codes "decided") (kept_for kept) (map string_bytes c.as_slice.result.now)) c.new-text.ensures.bytes
    ∙ ap (λ (ws : List (String _)). rows_text (codes "decided") (kept_for kept) (map string_bytes ws)) c.as_slice.ensures.value)
    c.in_ok-put_row.ensures
