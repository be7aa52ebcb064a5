use Rattle.std.proofs.lemmas.Result.{on_ok_weaker}
use Rattle.std.specs.Prelude.{string_bytes}
use Rattle.rv_explained.specs.Explanations.{dropping_line, freed_line}
use Rattle.rv_explained.proofs.Appending.{two_put}
use Rattle.rv_explained.proofs.turning.put_freed_wait.Goals as goal

pub returns : goal.returns
returns c =
    on_ok_weaker c.put_dropping.result
    (λ dropping keeps. two_put (string_bytes c.args.text.now) (string_bytes c.put_freed.new.text) (string_bytes c.put_dropping.new.text) (freed_line c.args.host.now c.args.next c.args.it.now) (dropping_line c.args.host.now c.args.next)
    c.in_ok-put_freed.ensures (dropping keeps)) c.put_dropping.ensures
