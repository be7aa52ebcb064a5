use Rattle.std.proofs.Common.{◌≡◌}
use Rattle.std.specs.Prelude.{IsTrue, None}
use Rattle.rv_shape.specs.Catalogue.{handler}
use Rattle.rv_never.specs.Denied.{DeniesLine}
use Rattle.rv_never.specs.declared.note.Never.TheVariants.{LineDenied}
use Rattle.rv_never.proofs.Adding.{this_on_ok}
use Rattle.rv_never.proofs.judge.add_line_denial.Goals as goal

pub returns : goal.returns
returns c =
    this_on_ok (LineDenied c.args.line) (IsTrue c.is_new_denied-denied.result)
    ((handler c.args.before.now c.args.line ≡ None) × DeniesLine c.args.catalogue.now c.args.list.now c.args.clock c.args.line)
    c.args.notes.now.items c.tell.new.notes.items c.tell.result c.is_new_denied-denied.ensures c.tell.ensures
