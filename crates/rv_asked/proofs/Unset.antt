-- A list, where none was set.
use Rattle.std.proofs.Common.{◌≡◌, ◌-◌, ℕ, List, [], None, Option, length, refl, sym, ap, ◌∙◌}
use Rattle.std.specs.Prelude.{slice_get}
use Rattle.std.specs.Option.{unwrap_or}
use Rattle.rv_access.specs.Words.{Words}
use Rattle.rv_shape.specs.Catalogue.{Target, Nowhere, OnProtected, OnSuspension, by_names, target}
use Rattle.rv_event.specs.declared.entry.Body.{Body}
use Rattle.rv_history.specs.History.{History, force}
use Rattle.rv_asked.specs.Asked.{decided_by}

no_line : (t : Target) → (let none : ℕ = 0 in by_names none (λ (object operation : List ℕ). none) t ≡ none)
no_line Nowhere = refl
no_line (OnProtected site) = refl
no_line (OnSuspension unit object operation) = refl

pub none_set : (h : History) (call : Body) → None ≡ slice_get h.lists (length h.lists - 1) → 0 ≡ decided_by (force h) h call
none_set h call none =
    sym (ap (λ (o : Option (List Words)). decided_by (unwrap_or o []) h call) (sym none) ∙ no_line (target h.shapes call.object call.operation))
