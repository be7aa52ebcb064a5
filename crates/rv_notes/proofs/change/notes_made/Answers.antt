use Rattle.std.proofs.Common.{◌∙◌, sym}
use Rattle.rv_notes.proofs.Appending.{denial_told}
use Rattle.rv_notes.proofs.change.notes_made.Goals as goal

pub returns-in-Append : goal.returns-in-Append
returns-in-Append c = λ same.
    denial_told c.args.scene.now c.args.before.now c.args.change.now c.in-Append.line c.args.after.now (λ (v : _). v.items) c.in-Append.is
    (sym c.allows.ensures ∙ c.if-not-allows.true) same c.notes_on_last.result c.notes_on_last.ensures
