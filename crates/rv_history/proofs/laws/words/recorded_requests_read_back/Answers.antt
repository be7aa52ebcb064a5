use Rattle.rv_history.proofs.Said.{read_back}
use Rattle.rv_history.proofs.laws.words.recorded_requests_read_back.Goals as goal

pub returns : goal.returns
returns c = read_back
