use Rattle.rv_never.proofs.Due.{all_denials}
use Rattle.rv_never.proofs.judge.denial_notes.Goals as goal

pub returns : goal.returns
returns c =
    all_denials c.args.before.now c.args.catalogue.now c.args.units.now c.args.list.now c.args.clock c.new-notes.result.items c.add_call_denials.new.notes.items c.add_line_denials.new.notes.items
    c.new-notes.ensures.items c.in_ok-add_call_denials.ensures c.in_ok-add_line_denials.ensures
