use Rattle.std.proofs.Common.{◌++◌, codes}
use Rattle.std.proofs.lemmas.Result.{on_ok_weaker}
use Rattle.std.specs.Prelude.{string_bytes}
use Rattle.std.specs.Fmt.{decimal}
use Rattle.rv_export.proofs.Appending.{three_put}
use Rattle.rv_export.proofs.facts.put_decision.Goals as goal

pub returns : goal.returns
returns c =
    on_ok_weaker c.put_quoted.result
    (λ put. three_put (string_bytes c.args.text.now) (string_bytes c.put_text.new.text) (string_bytes c.put_count.new.text) (string_bytes c.put_quoted.new.text)
    (codes ",\"subject\":\"" ++ c.args.subject.now) (codes "\",\"line\":" ++ decimal c.args.number) (codes ",\"line_text\":\"" ++ (c.args.line.now ++ codes "\""))
    c.in_ok-put_text.ensures c.in_ok-put_count.ensures put) c.put_quoted.ensures
