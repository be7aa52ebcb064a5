use Rattle.std.proofs.lemmas.Result.{on_ok_weaker}
use Rattle.std.specs.Prelude.{string_bytes}
use Rattle.rv_explained.specs.Explanations.{ended_body, ended_wait}
use Rattle.rv_explained.proofs.Appending.{two_put}
use Rattle.rv_explained.proofs.reasons.put_ends.Goals as goal

pub returns : goal.returns
returns c =
    let h = c.args.host.now in
    on_ok_weaker c.put_ended_wait.result
    (λ put keeps. two_put (string_bytes c.args.text.now) (string_bytes c.put_ended_body.new.text) (string_bytes c.put_ended_wait.new.text) (ended_body h c.args.ends.now.body) (ended_wait h c.args.next c.args.ends.now.wait)
    c.in_ok-put_ended_body.ensures (put keeps)) c.put_ended_wait.ensures
