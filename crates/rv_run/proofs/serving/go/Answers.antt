use Rattle.std.proofs.Common.{Ok, Err, refl}
use Rattle.rv_run.proofs.Ended.{goes_through}
use Rattle.rv_run.proofs.serving.go.Goals as goal

pub returns-in-Ok : goal.returns-in-Ok
returns-in-Ok g c =
    goes_through g.C.Chores.does _ _ _ _ c.start_threads.result (Ok tt) _ c.start_threads.ensures c.in-Ok.ensures.same
    (record { input = refl; left = refl }) c.in-Ok.ensures.means c.serve_if.ensures

pub returns-in-Err : goal.returns-in-Err
returns-in-Err g c =
    goes_through g.C.Chores.does _ _ _ _ c.start_threads.result (Err c.in-Err.failure) _ c.start_threads.ensures c.in-Err.ensures.same
    (record { input = refl; left = refl }) c.in-Err.ensures.means (refl, refl)
