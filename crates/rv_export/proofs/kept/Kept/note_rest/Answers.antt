use Rattle.std.proofs.Common.{List, ◌∷◌, refl, sym, subst}
use Rattle.std.proofs.lemmas.Result.{on_ok_weaker}
use Rattle.rv_event.specs.Lent.{whole}
use Rattle.rv_shape.specs.Shape.{Shape}
use Rattle.rv_asked.specs.Holding.{Keeps}
use Rattle.rv_export.proofs.kept.Kept.note_rest.Goals as goal

pub returns : goal.returns
returns c =
    let h = c.args.host.now in
    let e = whole c.args.entry.now in
    on_ok_weaker c.note-4.result
    (λ calls. record {
      holding = λ keeps. subst (λ (ss : List Shape). Keeps c.note-3.new.self ss (e ∷ h.past)) c.catalogue.ensures
          (c.in_ok-note-3.ensures h.past (subst (λ (ss : List Shape). Keeps c.args.self.now.holding ss h.past) (sym c.catalogue.ensures) keeps));
      calls = λ keeps. calls h.past keeps;
      left = λ keeps number_is. c.in_ok-note-2.ensures h.past keeps number_is c.clock.ensures;
      drops = λ keeps same. c.in_ok-note.ensures h.past h.lists keeps c.dropping_line.ensures same;
      rest = refl;
    }) c.note-4.ensures
