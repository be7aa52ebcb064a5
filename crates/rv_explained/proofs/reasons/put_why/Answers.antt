use Rattle.std.proofs.Common.{◌++◌, ap, ◌∙◌}
use Rattle.std.proofs.lemmas.Result.{on_ok_weaker}
use Rattle.std.specs.Prelude.{string_bytes}
use Rattle.rv_event.specs.declared.entry.Next.{Next}
use Rattle.rv_explained.specs.Explanations.{call_of, decision_line, ends_by, reason}
use Rattle.rv_explained.proofs.Appending.{three_put}
use Rattle.rv_explained.proofs.reasons.put_why.Goals as goal

pub returns : goal.returns
returns c =
    let h = c.args.host.now in
    let ends = c.args.ends.now in
    on_ok_weaker c.put_ends.result
    (λ put keeps. three_put (string_bytes c.args.text.now) (string_bytes c.put_call.new.text) (string_bytes c.put_reason.new.text) (string_bytes c.put_ends.new.text)
    (decision_line h (call_of h.shapes c.args.actor c.args.request.now)) (reason h c.args.actor c.args.request.now c.args.word) (ends_by h c.next_of-next.result ends.body ends.wait)
    (c.in_ok-put_call.ensures keeps) (c.in_ok-put_reason.ensures keeps) (put keeps)
    ∙ ap (λ (n : Next). string_bytes c.args.text.now ++ (decision_line h (call_of h.shapes c.args.actor c.args.request.now) ++ (reason h c.args.actor c.args.request.now c.args.word ++ ends_by h n ends.body ends.wait))) c.next_of-next.ensures)
    c.put_ends.ensures
