use Rattle.rv_shape.proofs.FoundByName.{distinct_none, distinct_more}
use Rattle.rv_shape.proofs.laws.fitting_shapes_are_distinct.Goals as goal

pub returns-clause-none : goal.returns-clause-none
returns-clause-none c = distinct_none

pub returns-clause-more : goal.returns-clause-more
returns-clause-more c = distinct_more
