use Rattle.rv_room.proofs.Keeping as keeping
use Rattle.rv_room.proofs.laws.kept_is_there.Goals as goal

pub returns : goal.returns
returns c = keeping.kept_is_there
