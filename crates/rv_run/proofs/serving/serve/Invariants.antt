use Rattle.rv_run.specs.Beside.{moment}
use Rattle.rv_run.specs.ServingBeside.{ServesUpToWith}
use Rattle.rv_run.proofs.serving.serve.Given as goal

abbrev pub invariant-loop : goal.invariant-loop
invariant-loop g l =
    ServesUpToWith g.C.Chores.does l.counter
    (moment l.fn.chores l.fn.session.staff (g.W.Write.contents l.fn.outputs.writer) l.fn.input (g.R.Read.remaining l.fn.reader) (g.E.Write.contents l.fn.outputs.errors))
    (moment l.chores l.session.staff (g.W.Write.contents l.outputs.writer) l.input (g.R.Read.remaining l.reader) (g.E.Write.contents l.outputs.errors))
