use Rattle.rv_never.proofs.Due.{same_adds}
use Rattle.rv_never.proofs.judge.add_unit_denials.Goals as goal

pub returns : goal.returns
returns c =
    same_adds c.args.catalogue.now c.args.list.now c.args.clock c.args.calls.now c.new-all.result.items c.add_calls.new.calls.items c.as_slice.result.now c.as_slice-2.result.now
    c.args.notes.now.items c.add_denials.new.notes.items
    c.new-all.ensures.items c.as_slice.ensures.value c.in_ok-add_calls.ensures c.as_slice-2.ensures.value c.add_denials.result c.add_denials.ensures
