use Rattle.std.proofs.Common.{List, ℕ, ◌++◌, ap, ◌∙◌, codes}
use Rattle.std.proofs.lemmas.Result.{on_ok_weaker}
use Rattle.std.specs.Prelude.{string_bytes}
use Rattle.std.specs.Fmt.{decimal}
use Rattle.rv_export.proofs.facts.put_drop.Goals as goal

pub returns : goal.returns
returns c =
    on_ok_weaker c.put_line_text.result
    (λ put h keeps. put
    ∙ ap (λ (t : List ℕ). string_bytes c.args.text.now ++ (codes ",\"line\":" ++ (decimal c.args.number ++ (codes ",\"line_text\":\"" ++ (t ++ codes "\""))))) (c.line.ensures h.past h.lists keeps))
    c.put_line_text.ensures
