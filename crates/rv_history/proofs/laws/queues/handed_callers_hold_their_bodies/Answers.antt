use Rattle.rv_history.proofs.Handing.{handed_wakes}
use Rattle.rv_history.proofs.laws.queues.handed_callers_hold_their_bodies.Goals as goal

pub returns : goal.returns
returns c = handed_wakes
