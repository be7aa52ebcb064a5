use Rattle.rv_staff.proofs.Texts.{texts_followed}
use Rattle.rv_staff.proofs.laws.texts_are_followed.Goals as goal

pub returns : goal.returns
returns c = texts_followed
