use Rattle.std.proofs.Common.{arith}
use Rattle.rv_go.proofs.Keeping.{none_stopped, one_stopped, all_stopped}
use Rattle.rv_go.proofs.places.stop.Goals as goal

pub places-init : goal.places-init
places-init c = λ budget awaited heard running some is. none_stopped budget awaited heard running c.args.listeners.now.items some is

pub places-preserved : goal.places-preserved
places-preserved c = λ budget awaited heard running some is.
    one_stopped heard c.places.place c.places.listeners.items c.index_mut.result.now (let t = c.places-test.true in let l = c.len.ensures in let k = c.places.listeners.ok.0 in omega (arith, t, l, k)) c.index_mut.ensures.value (c.places.invariant budget awaited heard running some is)

pub returns : goal.returns
returns c = λ budget awaited heard running some is.
    all_stopped heard c.places.place c.places.listeners.items (let t = c.places-test.false in let l = c.len.ensures in let k = c.places.listeners.ok.0 in omega (arith, t, l, k)) (c.places.invariant budget awaited heard running some is)
