use Rattle.std.proofs.Common.{◌≤◌, List, length, subst, arith}
use Rattle.std.proofs.lemmas.List.{take_all}
use Rattle.rv_notes.specs.declared.note.Note.{Note}
use Rattle.rv_notes.proofs.Changing.{NewSoFar, all_new, new_more}
use Rattle.rv_notes.proofs.change.new_ones.Goals as goal

pub loop-note-preserved : goal.loop-note-preserved
loop-note-preserved c = λ scene old new was is.
    new_more scene old new c.args.number c.args.is_denial c.args.found.now c.loop-note.new.items c.tell.new.notes.items c.loop-note.note-index _ c.is_new-is_told.result is
    c.loop-note-test.true c.in_ok-tell.ensures (λ e. c.is_new-is_told.ensures.new e scene old was) (λ e. c.is_new-is_told.ensures.known e scene old was)
    (c.loop-note.invariant scene old new was is)

pub returns : goal.returns
returns c = λ scene old new was is.
    let past : length c.args.found.now ≤ c.loop-note.note-index = omega (arith, c.loop-note-test.false) in
    all_new scene old new c.args.number c.args.is_denial c.args.found.now c.loop-note.new.items is
    (subst (λ (done : List Note). NewSoFar scene old new c.args.number c.args.is_denial done c.loop-note.new.items) (take_all c.loop-note.note-index c.args.found.now past) (c.loop-note.invariant scene old new was is))
