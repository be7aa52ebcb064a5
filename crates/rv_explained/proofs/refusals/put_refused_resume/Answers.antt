use Rattle.std.proofs.lemmas.Result.{on_ok_weaker}
use Rattle.std.specs.Prelude.{string_bytes}
use Rattle.rv_event.specs.Past.{last_queued}
use Rattle.rv_explained.specs.Explanations.{dropped_line, letting_line}
use Rattle.rv_explained.proofs.Appending.{two_put}
use Rattle.rv_explained.proofs.refusals.put_refused_resume.Goals as goal

pub returns : goal.returns
returns c =
    let h = c.args.host.now in
    on_ok_weaker c.put_letting_queued.result
    (λ put keeps. two_put (string_bytes c.args.text.now) (string_bytes c.put_resumed.new.text) (string_bytes c.put_letting_queued.new.text) (dropped_line c.args.actor h.past h.lists) (letting_line h (last_queued c.args.actor h.past))
    (c.in_ok-put_resumed.ensures keeps) (put keeps)) c.put_letting_queued.ensures
