use Rattle.std.proofs.lemmas.Result.{on_ok_weaker}
use Rattle.std.specs.Prelude.{string_bytes}
use Rattle.rv_lasting.specs.Lines.{end_text}
use Rattle.rv_explained.specs.Explanations.{dropping_line, freeing_section, when_text}
use Rattle.rv_explained.proofs.Appending.{four_put}
use Rattle.rv_explained.proofs.turning.put_wait_end.Goals as goal

pub returns : goal.returns
returns c =
    on_ok_weaker c.put_dropping.result
    (λ dropping keeps. four_put (string_bytes c.args.text.now) (string_bytes c.put_end.new.text) (string_bytes c.put_wait_when.new.text) (string_bytes c.put_line.new.text) (string_bytes c.put_dropping.new.text)
    (end_text c.args.next c.args.number) (when_text c.args.host.now c.args.it.now (freeing_section c.args.next)) c.args.line.now (dropping_line c.args.host.now c.args.next)
    c.in_ok-put_end.ensures c.in_ok-put_wait_when.ensures c.in_ok-put_line.ensures (dropping keeps)) c.put_dropping.ensures
