use Rattle.rv_frames.proofs.Asking.{associative, ends_add_nothing}
use Rattle.rv_frames.proofs.questions_are_associative.Goals as goal

pub returns-clause-parts : goal.returns-clause-parts
returns-clause-parts c start = associative

pub returns-clause-ends : goal.returns-clause-ends
returns-clause-ends c start = ends_add_nothing
