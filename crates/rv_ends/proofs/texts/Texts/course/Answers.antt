use Rattle.std.proofs.Common.{subst}
use Rattle.std.specs.Prelude.{IfOk}
use Rattle.rv_code.specs.Bodies.{UnitBodies}
use Rattle.rv_ends.specs.Afoot.{open_view}
use Rattle.rv_ends.specs.Courses.{IsCourse}
use Rattle.rv_ends.specs.declared.meaning.Course.{Course}
use Rattle.rv_ends.proofs.texts.Texts.course.Goals as goal

pub returns-clause-course : goal.returns-clause-course
returns-clause-course c = λ tabled.
    subst (λ (bodies : UnitBodies). IfOk c.course_of-course.result (λ (course : Course). IsCourse bodies c.args.catalogue.now (open_view c.args.body.now) c.args.end.now course))
    (c.in_ok-there.ensures.table tabled) c.course_of-course.ensures
