-- An answer that is due, and apart from it the scalars that go with it (own).
use Rattle.std.specs.Prelude.{ℕ, ◌-◌, ℤ, List, [], Option, Some, None, option_map, unwrap_or}
use Rattle.rv_shape.specs.Catalogue.{OperationNumber, handler}
use Rattle.rv_event.specs.Past.{innermost, scalars}
use Rattle.rv_event.specs.declared.entry.Body.{Body}
use Rattle.rv_event.specs.declared.entry.Request.{Request}
use Rattle.rv_event.specs.declared.entry.Request.TheVariants.{Call, Fire, Resume}
use Rattle.rv_event.specs.declared.entry.Answer.{Answer}
use Rattle.rv_event.specs.declared.entry.Answer.TheVariants as answers
use Rattle.rv_history.specs.History.{History}
use Rattle.rv_host.specs.declared.decision.Decision.{Decision}
use Rattle.rv_host.specs.declared.decision.Decision.TheVariants.{Started, Queued, Refused, Done, Suspended, Delayed}
use Rattle.rv_host.specs.declared.decision.Decision.TheVariants.{Woken, HandedOver, Accepted, Misuse, Halted, Busy}
use Rattle.rv_host.specs.declared.decision.Decision.TheVariants.{Waiting, Unattached}

-- the scalars, none where there are none
abbrev pub or_none : Option (List ℤ) → List ℤ
or_none given = unwrap_or given []

-- the answer with these scalars
abbrev pub answer_with : Option (List ℤ) → Decision → Answer
answer_with given Started = answers.Started (or_none given)
answer_with given Queued = answers.Queued
answer_with given (Refused rule line version) = answers.Refused rule line version
answer_with given (Done next) = answers.Done next
answer_with given Suspended = answers.Suspended
answer_with given Delayed = answers.Delayed
answer_with given Woken = answers.Woken None
answer_with given HandedOver = answers.Woken (Some (or_none given))
answer_with given (Accepted value) = answers.Accepted value
answer_with given Misuse = answers.Misuse
answer_with given Halted = answers.Halted
answer_with given Busy = answers.Busy
answer_with given Waiting = answers.Waiting
answer_with given Unattached = answers.Unattached

-- the scalars of the object of this body
abbrev pub scalars_of_body : History → Option Body → Option (List ℤ)
scalars_of_body h body = option_map (λ b. scalars h.shapes b.object h.past) body

-- the scalars of the object of this operation
abbrev pub scalars_of_called : History → Option OperationNumber → Option (List ℤ)
scalars_of_called h called = option_map (λ o. scalars h.shapes o.object h.past) called

-- the scalars that go with the answer to a request, if it starts a body or wakes its actor in one: of the object that it
-- calls, and of a resume those of the object that the actor holds
abbrev pub scalars_for : History → ℕ → Request → Option (List ℤ)
scalars_for h actor (Call object operation values) = Some (scalars h.shapes object h.past)
scalars_for h actor Fire = scalars_of_called h (handler h.shapes (actor - 1))
scalars_for h actor Resume = scalars_of_body h (innermost h.shapes actor h.past)
scalars_for h actor request = None
