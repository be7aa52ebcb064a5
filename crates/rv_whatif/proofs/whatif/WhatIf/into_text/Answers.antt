use Rattle.std.proofs.Common.{rules, ◌≡◌, ◌∙◌, ◌++◌, ap, List, ℕ, map, codes}
use Rattle.std.specs.Prelude.{String, string_bytes}
use Rattle.rv_tallied.specs.Tallies.{kept_for, rows_text}
use Rattle.rv_whatif.specs.Changes.{head}
use Rattle.rv_whatif.proofs.Looking.{all_said}
use Rattle.rv_whatif.proofs.whatif.WhatIf.into_text.Goals as goal

pub returns : goal.returns
returns c = λ filter list h follows.
    let first : string_bytes c.in_ok-text.text ≡ head = search rules in
    let second : string_bytes c.push_str.new.self ≡ string_bytes c.in_ok-text.text ++ string_bytes c.args.self.text = search rules in
    all_said filter list c.args.self h (string_bytes c.in_ok-text.text) (string_bytes c.push_str.new.self) (string_bytes c.put_rows.new.text) follows first second
    (c.in_ok-put_rows.ensures ∙ ap (λ (ws : List (String _)). string_bytes c.push_str.new.self ++ rows_text (codes "changed") (kept_for c.args.self.tallies) (map string_bytes ws)) c.as_slice.ensures.value)
