use Rattle.std.proofs.Common.{◌≡◌, List, map, Some, subst}
use Rattle.rv_shape.specs.Shape.{Shape}
use Rattle.rv_ends.specs.Afoot.{open_view}
use Rattle.rv_ends.specs.Courses.{IsCourse}
use Rattle.rv_ends.specs.Ends.{texts_of}
use Rattle.rv_ends.specs.Explained.{innermost}
use Rattle.rv_ends.specs.declared.afoot.OpenBody.{OpenBody}
use Rattle.rv_ends.specs.declared.meaning.Course.{Course}
use Rattle.rv_ends.specs.declared.meaning.Course.TheVariants as course
use Rattle.rv_ends.proofs.Meanings.{asks_other, explained_is}
use Rattle.rv_ends.proofs.ends.Ends.meaning.Goals as goal

pub returns-in-Explained-clause-meaning : goal.returns-in-Explained-clause-meaning
returns-in-Explained-clause-meaning c = λ whole.
    let body = open_view c.in-Some.body.now in
    let is = subst (λ (bodies : List OpenBody). innermost c.args.actor (map open_view bodies) ≡ Some body) c.as_slice.ensures.value c.in-Some.ensures.some in
    let so = subst (λ (shapes : List Shape). IsCourse (texts_of c.args.self.now) shapes body c.args.end.now course.Explained) c.catalogue.ensures
    (subst (λ (x : Course). IsCourse (texts_of c.args.self.now) c.catalogue.result.now body c.args.end.now x) c.in-Explained.is (c.in_ok-course.ensures.course whole.tabled)) in
    explained_is c.args.self.now c.args.host.now c.args.actor c.args.end.now body whole is so

pub returns-in-Asks-clause-meaning : goal.returns-in-Asks-clause-meaning
returns-in-Asks-clause-meaning c = λ whole.
    let body = open_view c.in-Some.body.now in
    let is = subst (λ (bodies : List OpenBody). innermost c.args.actor (map open_view bodies) ≡ Some body) c.as_slice.ensures.value c.in-Some.ensures.some in
    let so = subst (λ (shapes : List Shape). IsCourse (texts_of c.args.self.now) shapes body c.args.end.now (course.Asks c.in-Asks.request)) c.catalogue.ensures
    (subst (λ (x : Course). IsCourse (texts_of c.args.self.now) c.catalogue.result.now body c.args.end.now x) c.in-Asks.is (c.in_ok-course.ensures.course whole.tabled)) in
    asks_other c.args.self.now c.args.host.now c.args.actor c.args.end.now c.in-Asks.request body is so
