use Rattle.rv_feed.proofs.Heard.{hears_one}
use Rattle.rv_attend.proofs.GoingOn.{comes_by, grows_heard}
use Rattle.rv_attend.proofs.waiting.hear.Goals as goal

pub returns-in-Ok-clause-grows : goal.returns-in-Ok-clause-grows
returns-in-Ok-clause-grows g c = grows_heard _ _ _ _ c.hear.result c.hear.ensures.hears

pub returns-in-Ok-clause-hears : goal.returns-in-Ok-clause-hears
returns-in-Ok-clause-hears g c = hears_one _ _ _ _ c.in-Ok.came c.in-Ok.ensures.hears

pub returns-in-Ok-clause-comes : goal.returns-in-Ok-clause-comes
returns-in-Ok-clause-comes g c = comes_by _ _ _ _ c.in-Ok.came c.found_by.result c.in-Ok.ensures.hears c.found_by.ensures

pub returns-in-Err-clause-grows : goal.returns-in-Err-clause-grows
returns-in-Err-clause-grows g c = grows_heard _ _ _ _ c.hear.result c.hear.ensures.hears
