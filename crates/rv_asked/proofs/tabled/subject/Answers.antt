use Rattle.std.proofs.Common.{List, Option, subst}
use Rattle.rv_event.specs.declared.entry.Body.{Body}
use Rattle.rv_history.specs.Subject.{home, subject_of, unit_at}
use Rattle.rv_host.specs.Numbered.{IsNumber}
use Rattle.rv_shape.specs.Catalogue.{place, who}
use Rattle.rv_shape.specs.Shape.{Shape}
use Rattle.rv_asked.proofs.tabled.subject.Goals as goal

pub returns-in-None : goal.returns-in-None
returns-in-None c = λ h names keeps.
    subst (λ (o : Option Body). IsNumber h.shapes (subject_of h c.args.actor o) c.home.result) (c.in-None.ensures h.shapes h.past keeps)
    (subst (λ (ss : List Shape). IsNumber ss (home (who ss c.args.actor)) c.home.result) names c.home.ensures)

pub returns-in-Some : goal.returns-in-Some
returns-in-Some c = λ h names keeps.
    subst (λ (o : Option Body). IsNumber h.shapes (subject_of h c.args.actor o) c.unit_at.result) (c.in-Some.ensures h.shapes h.past keeps)
    (subst (λ (ss : List Shape). IsNumber ss (unit_at (place ss c.in-Some.body.object)) c.unit_at.result) names c.unit_at.ensures)
