use Rattle.std.proofs.lemmas.Result.{on_ok_weaker}
use Rattle.std.specs.Prelude.{string_bytes}
use Rattle.rv_explained.specs.Explanations.{tick_line, why_by}
use Rattle.rv_explained.proofs.Appending.{three_put}
use Rattle.rv_explained.proofs.explained.Explained.put_asked.Goals as goal

pub returns-clause-text : goal.returns-clause-text
returns-clause-text c =
    let h = c.args.host.now in
    let ends = c.args.ends.now in
    on_ok_weaker c.put_why.result
    (λ put keeps. three_put (string_bytes c.args.self.now.text) (string_bytes c.put_line.new.text) (string_bytes c.put_tick.new.text) (string_bytes c.put_why.new.text)
    c.args.line.now (tick_line h) (why_by h c.args.actor c.args.request.now c.args.word ends.body ends.wait)
    c.in_ok-put_line.ensures (c.in_ok-put_tick.ensures keeps) (put keeps)) c.put_why.ensures
