use Rattle.std.proofs.Common.{◌≤◌, length, subst, sym, arith}
use Rattle.rv_notes.proofs.Adding.{SoFar, all_lines, line_more, none_yet}
use Rattle.rv_notes.proofs.judge.notes.Goals as goal

pub loop-place-init : goal.loop-place-init
loop-place-init c =
    subst (SoFar c.args.scene.now c.args.list.now 0) (sym c.new-notes.ensures.items) (none_yet c.args.scene.now c.args.list.now)

pub loop-place-preserved : goal.loop-place-preserved
loop-place-preserved c =
    line_more c.args.scene.now c.args.list.now c.loop-place.place c.loop-place.notes.items c.add_notes.new.notes.items c.loop-place.invariant c.in_ok-add_notes.ensures

pub returns : goal.returns
returns c =
    let past : length c.args.list.now ≤ c.loop-place.place = omega (arith, c.loop-place-test.false, c.len-place-end.ensures) in
    all_lines c.args.scene.now c.args.list.now c.loop-place.place c.loop-place.notes.items past c.loop-place.invariant
