use Rattle.rv_never.proofs.Due.{all_ceilings}
use Rattle.rv_never.proofs.judge.ceiling_notes.Goals as goal

pub returns : goal.returns
returns c =
    all_ceilings c.args.before.now c.args.catalogue.now c.args.units.now c.new-notes.result.items c.add_units_too_high.new.notes.items c.add_lines_too_high.new.notes.items
    c.new-notes.ensures.items c.in_ok-add_units_too_high.ensures c.in_ok-add_lines_too_high.ensures
