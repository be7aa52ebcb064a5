use Rattle.std.proofs.Common.{sym, subst}
use Rattle.rv_notes.specs.Notes.{AreNotes}
use Rattle.rv_notes.proofs.Changing.{change_told}
use Rattle.rv_notes.proofs.change.notes_compared.Goals as goal

pub returns : goal.returns
returns c = λ list.
    let old : AreNotes c.args.scene.now c.args.before.now c.as_slice.result.now = subst (AreNotes c.args.scene.now c.args.before.now) (sym c.as_slice.ensures.value) c.in_ok-old.ensures in
    let new : AreNotes c.args.scene.now c.args.after.now c.as_slice-2.result.now = subst (AreNotes c.args.scene.now c.args.after.now) (sym c.as_slice-2.ensures.value) c.in_ok-new.ensures in
    change_told c.args.scene.now c.args.before.now c.args.change.now c.args.after.now (λ (v : _). v.items) c.line_changed.result c.denies.result list c.line_changed.ensures c.denies.ensures c.new_ones.result (c.new_ones.ensures c.args.scene.now c.args.before.now c.args.after.now old new)
