-- An answer below 0 is recorded nowhere, so it leaves the history as it is.
use Rattle.std.proofs.Common.{◌≡◌, ℕ, pos, int_lt, true, List, Option, None, Some, refl, ap, is_some}
use Rattle.std.specs.Prelude.{if◌then◌else◌, ◌∷◌, [], ◌++◌}
use Rattle.rv_access.specs.Words.{Words}
use Rattle.rv_event.specs.Recorded.{recorded}
use Rattle.rv_event.specs.declared.entry.Answer.{Answer}
use Rattle.rv_event.specs.declared.entry.Answer.TheVariants.{Started, Queued, Refused, Done, Suspended, Delayed, Woken, Accepted}
use Rattle.rv_event.specs.declared.entry.Answer.TheVariants.{Misuse, Halted, Full, Busy, Waiting, Unattached, BadLine, OutOfMemory}
use Rattle.rv_event.specs.declared.entry.Entry.TheVariants.{Load}
use Rattle.rv_event.specs.declared.entry.Recorded.{Recorded}
use Rattle.rv_event.specs.declared.entry.Request.{Request}
use Rattle.rv_history.specs.History.{History}
use Rattle.rv_history.specs.Legal.{after, after_load, after_list, entered, listed}
use Rattle.rv_shape.specs.Shape.{Shape}
use Rattle.rv_c_host.specs.Numbers.{kind_of}

unrecorded : (answer : Answer) → int_lt (kind_of answer) (pos 0) ≡ true → recorded answer ≡ None
unrecorded (Started values) e = absurd (cc)
unrecorded Queued e = absurd (cc)
unrecorded (Refused rule line version) e = absurd (cc)
unrecorded (Done next) e = absurd (cc)
unrecorded Suspended e = absurd (cc)
unrecorded Delayed e = absurd (cc)
unrecorded (Woken None) e = absurd (cc)
unrecorded (Woken (Some values)) e = absurd (cc)
unrecorded (Accepted value) e = absurd (cc)
unrecorded Misuse e = refl
unrecorded Halted e = refl
unrecorded Full e = refl
unrecorded Busy e = refl
unrecorded Waiting e = refl
unrecorded Unattached e = refl
unrecorded BadLine e = refl
unrecorded OutOfMemory e = refl

pub request_stays : (h : History) (actor : ℕ) (request : Request) (answer : Answer) → int_lt (kind_of answer) (pos 0) ≡ true → after h actor request answer ≡ h
request_stays h actor request answer e = ap (λ (word : Option Recorded). entered h actor request word) (unrecorded answer e)

pub load_stays : (h : History) (shape : Shape) (answer : Answer) → int_lt (kind_of answer) (pos 0) ≡ true → after_load h shape answer ≡ h
load_stays h shape answer e =
    ap (λ (word : Option Recorded). if is_some word then record h { past = Load ∷ h.past; shapes = h.shapes ++ shape ∷ [] } else h) (unrecorded answer e)

pub change_stays : (h : History) (list : Option (List Words)) (answer : Answer) → int_lt (kind_of answer) (pos 0) ≡ true → after_list h list answer ≡ h
change_stays h list answer e = ap (λ (word : Option Recorded). if is_some word then listed h list else h) (unrecorded answer e)
