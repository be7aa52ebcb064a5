use Rattle.std.proofs.Common.{◌≡◌, Bool, true, false, List, Ok, Err, codes, inl, inr, refl, rules, subst}
use Rattle.rv_code.specs.declared.unit.Unit.{Unit as Compiled}
use Rattle.rv_fault.specs.Sections.{GivesUnit, Reads}
use Rattle.rv_shape.specs.Shape.{Shape}
use Rattle.rv_run.proofs.Commanded.{admitted_so, loads_by, says_on}
use Rattle.rv_run.proofs.command.load.Goals as goal

pub returns-then-not-admits-clause-loads : goal.returns-then-not-admits-clause-loads
returns-then-not-admits-clause-loads g c =
    let no : c.admits.result ≡ false = search rules in
    inr (inl record {
      unit = c.in-Ok.unit;
      is_unit = subst (λ (shapes : List Shape). GivesUnit shapes c.args.text.now (Ok c.in-Ok.unit)) c.catalogue.ensures c.in-Ok.ensures;
      turned = admitted_so (g.C.Chores.does.admits c.args.chores.now) _ _ c.in-Ok.unit.shape _ false c.catalogue-in-Ok.ensures no c.admits.ensures;
      same = refl;
      said = says_on _ _ (codes "full\n") c.say.result c.said.result c.say.ensures c.said.ensures.same c.said.ensures.goes;
    })

pub returns-else-not-admits-clause-loads : goal.returns-else-not-admits-clause-loads
returns-else-not-admits-clause-loads g c =
    let yes : c.admits.result ≡ true = search rules in
    loads_by (g.C.Chores.does.admits c.args.chores.now) c.args.session.now.staff c.load-answer.new.self c.welcome.new.session.staff _ _ c.args.text.now c.in-Ok.unit c.load-answer.result c.welcome.result
    (subst (λ (shapes : List Shape). GivesUnit shapes c.args.text.now (Ok c.in-Ok.unit)) c.catalogue.ensures c.in-Ok.ensures)
    (admitted_so (g.C.Chores.does.admits c.args.chores.now) _ _ c.in-Ok.unit.shape _ true c.catalogue-in-Ok.ensures yes c.admits.ensures)
    c.load-answer.ensures.told c.load-answer.ensures.crew c.welcome.ensures

pub returns-in-Err-clause-loads : goal.returns-in-Err-clause-loads
returns-in-Err-clause-loads g c = inr (inr record {
  failure = c.in-Err.failure;
  refused = subst (λ (shapes : List Shape). Reads {A = Compiled} 0 (GivesUnit shapes c.args.text.now) (Err c.in-Err.failure)) c.catalogue.ensures c.in-Err.ensures;
  same = refl;
  said = c.complain.ensures;
})
