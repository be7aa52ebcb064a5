use Rattle.std.proofs.Common.{[], ◌∷◌, codes}
use Rattle.std.proofs.lemmas.Result.{on_ok_weaker}
use Rattle.std.specs.Prelude.{string_bytes}
use Rattle.rv_waiting.specs.Queues.{callers}
use Rattle.rv_explained.specs.Explanations.{actor_names}
use Rattle.rv_explained.proofs.Appending.{two_put}
use Rattle.rv_explained.proofs.refusals.put_queue.Goals as goal

pub returns : goal.returns
returns c =
    let h = c.args.host.now in
    on_ok_weaker c.put_feed.result
    (λ fed. two_put (string_bytes c.args.text.now) (string_bytes c.put_callers.new.text) (string_bytes c.put_feed.new.text) (actor_names h.shapes (codes "in the queue: ") (callers c.args.object h.past)) (10 ∷ [])
    c.in_ok-put_callers.ensures fed) c.put_feed.ensures
