use Rattle.rv_history.proofs.Done.{only_serving}
use Rattle.rv_history.proofs.laws.queues.only_ends_and_settles_name_queued_callers.Goals as goal

pub returns : goal.returns
returns c = only_serving
