use Rattle.std.proofs.Common.{◌∙◌, ◌-◌, List, ap, get_or}
use Rattle.rv_access.specs.Words.{Words}
use Rattle.rv_notes.specs.Covered.{has_ended}
use Rattle.rv_notes.proofs.Adding.{Tests, adds}
use Rattle.rv_notes.proofs.judge.add_notes.Goals as goal

pub returns : goal.returns
returns c =
    let scene = c.args.scene.now in
    let list = c.args.list.now in
    let number = c.args.number in
    let line = c.index-lines-number.result in
    let tests : Tests scene list number line c.in_ok-caller.caller c.in_ok-home.home c.lacks_object-object.result c.lacks_operation-operation.result c.has_ended-past.result c.in_ok-covered.covered = record {
      caller = c.in_ok-caller.ensures;
      home = c.in_ok-home.ensures;
      object = c.lacks_object-object.ensures;
      operation = c.lacks_operation-operation.ensures;
      past = c.has_ended-past.ensures ∙ ap (has_ended line.window) c.clock.ensures;
      covered = c.in_ok-covered.ensures;
    } in
    adds scene list number line c.in_ok-caller.caller c.in_ok-home.home c.lacks_object-object.result c.lacks_operation-operation.result c.has_ended-past.result c.in_ok-covered.covered
    c.args.notes.now.items c.tell.new.notes.items c.tell-2.new.notes.items c.tell-3.new.notes.items c.tell-4.new.notes.items c.tell-5.new.notes.items c.tell-6.new.notes.items
    c.requires.counted c.requires.there (c.index-lines-number.is ∙ ap (λ (ls : List Words). get_or ls (number - 1) line) c.lines.ensures) tests
    c.in_ok-tell.ensures c.in_ok-tell-2.ensures c.in_ok-tell-3.ensures c.in_ok-tell-4.ensures c.in_ok-tell-5.ensures c.in_ok-tell-6.ensures
