use Rattle.std.proofs.Common.{◌≡◌, true}
use Rattle.std.specs.Prelude.{IsTrue, None}
use Rattle.rv_shape.specs.Catalogue.{handler}
use Rattle.rv_never.specs.Nevers.{is_handler_low}
use Rattle.rv_never.specs.declared.note.Never.TheVariants.{LineAbove}
use Rattle.rv_never.proofs.Adding.{this_on_ok}
use Rattle.rv_never.proofs.judge.add_line_too_high.Goals as goal

pub returns : goal.returns
returns c =
    this_on_ok (LineAbove c.args.line) (IsTrue c.is_new_too_high-low.result)
    ((handler c.args.before.now c.args.line ≡ None) × (is_handler_low c.args.catalogue.now c.args.line (handler c.args.catalogue.now c.args.line) ≡ true))
    c.args.notes.now.items c.tell.new.notes.items c.tell.result c.is_new_too_high-low.ensures c.tell.ensures
