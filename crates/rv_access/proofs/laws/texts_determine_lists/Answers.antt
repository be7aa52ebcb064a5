use Rattle.rv_access.proofs.TextLines.{same_list}
use Rattle.rv_access.proofs.laws.texts_determine_lists.Goals as goal

pub returns : goal.returns
returns c = same_list
