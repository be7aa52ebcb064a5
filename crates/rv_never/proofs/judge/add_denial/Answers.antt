use Rattle.std.specs.Prelude.{IsTrue}
use Rattle.rv_never.specs.Denied.{DeniesUnit}
use Rattle.rv_never.specs.declared.note.Never.TheVariants.{Denied}
use Rattle.rv_never.proofs.Adding.{this_on_ok}
use Rattle.rv_never.proofs.judge.add_denial.Goals as goal

pub returns : goal.returns
returns c =
    let called = c.args.called in
    this_on_ok (Denied c.args.unit called.object called.operation) (IsTrue c.denies_unit-denied.result)
    (DeniesUnit c.args.catalogue.now c.args.list.now c.args.clock c.args.unit called.object called.operation)
    c.args.notes.now.items c.tell.new.notes.items c.tell.result c.denies_unit-denied.ensures c.tell.ensures
