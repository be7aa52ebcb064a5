use Rattle.std.proofs.Common.{List, sym, subst, arith}
use Rattle.rv_go.specs.declared.listening.Listener.{Listener}
use Rattle.rv_go.specs.Kept.{AreKept}
use Rattle.rv_go.proofs.Keeping.{kept_push}
use Rattle.rv_go.proofs.places.reach.Goals as goal

pub places-preserved : goal.places-preserved
places-preserved c = λ budget awaited heard running is.
    subst (λ (ls : List Listener). AreKept budget awaited heard running ls) (sym c.in_ok-push.ensures.items)
    (kept_push budget awaited heard running c.places.listeners.items c.new-listener.result (let e = c.new-listener.ensures.actor in let l = c.len-place.ensures in let k = c.places.listeners.ok.0 in omega (arith, e, l, k)) c.new-listener.ensures.answers c.new-listener.ensures.run (c.places.invariant budget awaited heard running is))

pub returns-in_err-push-clause-kept : goal.returns-in_err-push-clause-kept
returns-in_err-push-clause-kept c = λ budget awaited heard running is.
    subst (λ (ls : List Listener). AreKept budget awaited heard running ls) (sym c.in_err-push.ensures.items) (c.places.invariant budget awaited heard running is)
