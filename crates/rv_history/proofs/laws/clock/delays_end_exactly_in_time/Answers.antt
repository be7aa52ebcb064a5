use Rattle.rv_history.proofs.Resumes.{delay_ends}
use Rattle.rv_history.proofs.laws.clock.delays_end_exactly_in_time.Goals as goal

pub returns : goal.returns
returns c = delay_ends
