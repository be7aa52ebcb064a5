use Rattle.std.proofs.Common.{codes}
use Rattle.std.proofs.lemmas.Result.{on_ok_weaker}
use Rattle.std.specs.Prelude.{string_bytes}
use Rattle.rv_explained.specs.Explanations.{body_end_text, when_text}
use Rattle.rv_explained.proofs.Appending.{three_put}
use Rattle.rv_explained.proofs.turning.put_body_end.Goals as goal

pub returns : goal.returns
returns c =
    on_ok_weaker c.put_line.result
    (λ line. three_put (string_bytes c.args.text.now) (string_bytes c.put_body_number.new.text) (string_bytes c.put_body_when.new.text) (string_bytes c.put_line.new.text)
    (body_end_text c.args.number) (when_text c.args.host.now c.args.it.now (codes " (9.5.1)")) c.args.line.now
    c.in_ok-put_body_number.ensures c.in_ok-put_body_when.ensures line) c.put_line.ensures
