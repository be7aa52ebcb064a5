use Rattle.rv_check.proofs.Commanded.{load_refused}
use Rattle.rv_check.proofs.commands.load_unit.Goals as goal

pub returns-in-Ok-add : goal.returns-in-Ok-add
returns-in-Ok-add c =
    let given = c.in-Ok.ensures in
    (c.in-Ok.unit.shape, given.0, (_, given.1), c.in-Ok-add.ensures.ok)

pub returns-in-Err : goal.returns-in-Err
returns-in-Err c = load_refused c.args.catalogue.now c.args.text.now c.args.line c.in-Err.failure c.in-Err.ensures
