use Rattle.std.proofs.Common.{refl}
use Rattle.rv_present.proofs.Growing.{load_grown}
use Rattle.rv_present.proofs.present.Present.note_load.Goals as goal

pub note-requires : goal.note-requires
note-requires c =
    let k = c.requires in
    let grown = load_grown k.limits k.past c.args.catalogue.now k.lists c.args.self.now c.grow.new.self k.legal k.is_present c.grow.ensures in
    record {
      limits = k.limits;
      past = k.past;
      lists = k.lists;
      legal = k.legal;
      least = k.least;
      most = k.most;
      is_present = grown;
      is_change = c.change_of-change.ensures k.past grown refl;
    }

pub returns : goal.returns
returns c = λ limits past lists legal was.
    let grown = load_grown limits past c.args.catalogue.now lists c.args.self.now c.grow.new.self legal was c.grow.ensures in
    c.note.ensures past grown (c.change_of-change.ensures past grown refl)
