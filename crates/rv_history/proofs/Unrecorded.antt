-- An answer that isn't recorded changes nothing.
use Rattle.std.proofs.Common.{◌≡◌, ℕ, List, None, Option, ap}
use Rattle.std.specs.Prelude.{is_some, if◌then◌else◌, ◌∷◌, ◌++◌, []}
use Rattle.rv_access.specs.Words.{Words}
use Rattle.rv_shape.specs.Shape.{Shape}
use Rattle.rv_event.specs.Recorded.{recorded}
use Rattle.rv_event.specs.declared.entry.Entry.TheVariants.{Load}
use Rattle.rv_event.specs.declared.entry.Request.{Request}
use Rattle.rv_event.specs.declared.entry.Answer.{Answer}
use Rattle.rv_history.specs.History.{History}
use Rattle.rv_history.specs.Legal.{after, entered, after_load, after_list, listed}

pub request_unrecorded : (h : History) (a : ℕ) (r : Request) (x : Answer) → recorded x ≡ None → after h a r x ≡ h
request_unrecorded h a r x e = ap (entered h a r) e

pub load_unrecorded : (h : History) (s : Shape) (x : Answer) → recorded x ≡ None → after_load h s x ≡ h
load_unrecorded h s x e = ap (λ o. if is_some o then record h { past = Load ∷ h.past; shapes = h.shapes ++ s ∷ [] } else h) e

pub list_unrecorded : (h : History) (list : Option (List Words)) (x : Answer) → recorded x ≡ None → after_list h list x ≡ h
list_unrecorded h list x e = ap (λ o. if is_some o then listed h list else h) e
