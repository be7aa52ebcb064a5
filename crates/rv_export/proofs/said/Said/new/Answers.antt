use Rattle.std.proofs.Common.{List, map, ap, sym, subst, ◌∙◌}
use Rattle.std.specs.Prelude.{String, Vec, string_bytes}
use Rattle.std.specs.Global.{Global}
use Rattle.rv_access.specs.Text.{line_text}
use Rattle.rv_access.specs.Words.{Words}
use Rattle.rv_export.specs.Said.{AreActors, AreCalls}
use Rattle.rv_export.proofs.said.Said.new.Goals as goal

pub returns : goal.returns
returns c = λ h none. record {
  tabled = c.new.ensures h;
  lines = ap (λ (xs : List (String Global)). map string_bytes xs) c.new-2.ensures.items ∙ sym (ap (λ (ls : List Words). map line_text ls) none);
  actors = subst (λ (xs : List (String Global)). AreActors xs h.shapes) (sym c.new-3.ensures.items) (λ actor. tt);
  calls = subst (λ (xs : List (Vec (String Global) Global)). AreCalls xs h.shapes) (sym c.new-4.ensures.items) (λ object. tt);
}
