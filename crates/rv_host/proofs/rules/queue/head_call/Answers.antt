use Rattle.std.proofs.Common.{◌∙◌, sym, ap, Option, ℕ}
use Rattle.rv_host.specs.Seen.{history_of}
use Rattle.rv_waiting.specs.Queues.{call_of}
use Rattle.rv_host.proofs.rules.queue.head_call.Goals as goal

pub returns-in-Some : goal.returns-in-Some
returns-in-Some c =
    let h = history_of c.args.seen.now in
    c.last_queued.ensures h c.requires.is_present
    ∙ ap (λ (caller : Option ℕ). call_of caller h.past) (sym c.in-Some.is)
    ∙ sym (c.head.ensures.call h c.requires.legal c.requires.is_waiting)

pub returns-in-None : goal.returns-in-None
returns-in-None c =
    let h = history_of c.args.seen.now in
    ap (λ (caller : Option ℕ). call_of caller h.past) (sym c.in-None.is)
    ∙ sym (c.head.ensures.call h c.requires.legal c.requires.is_waiting)
