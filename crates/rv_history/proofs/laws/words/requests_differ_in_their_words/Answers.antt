use Rattle.rv_history.proofs.Said.{texts_differ}
use Rattle.rv_history.proofs.laws.words.requests_differ_in_their_words.Goals as goal

pub returns : goal.returns
returns c = texts_differ
