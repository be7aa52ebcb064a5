-- What is kept stays where a unit more is loaded.
use Rattle.std.proofs.Common.{[], ◌∷◌, ◌++◌, sym, ◌∙◌}
use Rattle.rv_shape.specs.Shape.{Shape}
use Rattle.rv_event.specs.declared.entry.Entry.TheVariants.{Load}
use Rattle.rv_history.specs.History.{History}
use Rattle.rv_history.specs.Legal.{Legal}
use Rattle.rv_history.proofs.Loaded.{under_way_stays}
use Rattle.rv_asked.specs.Holding.{Keeps}
use Rattle.rv_asked.specs.declared.holding.Holding.{Holding}

pub stays : (it : Holding) (h : History) (shape : Shape) → Legal h → Keeps it h.shapes h.past → Keeps it (h.shapes ++ shape ∷ []) (Load ∷ h.past)
stays it h shape legal keeps = record {
  calls = keeps.calls;
  bodies = keeps.bodies ∙ sym (under_way_stays h (shape ∷ []) legal);
}
