-- The six rules that a call may violate, and the first of them that it does (own; 9.5.1, D.3, D.7, D.10, H.5).
use Rattle.std.specs.Prelude.{ℕ, ◌-◌, Bool, true, false, ◌==◌, nat_lt, ◌&&◌, ◌||◌, not, if◌then◌else◌, List, [], ◌∷◌}
use Rattle.std.specs.Prelude.{length, Some, None, Option, is_some}
use Rattle.std.specs.List.{list_any}
use Rattle.rv_access.specs.Lines.{decides, grants}
use Rattle.rv_shape.specs.Shape.{Shape}
use Rattle.rv_shape.specs.Catalogue.{OperationNumber, Target, Nowhere, OnProtected, OnSuspension, target, handler}
use Rattle.rv_shape.specs.Catalogue.{by_names, is_entry}
use Rattle.rv_event.specs.Past.{under_way, held, is_unsettled, waiter, clock}
use Rattle.rv_shape.specs.declared.suspension.SuspensionOperation.{SuspensionOperation}
use Rattle.rv_shape.specs.declared.suspension.SuspensionOperation.TheVariants.{SetTrue, SetFalse, CurrentState}
use Rattle.rv_shape.specs.declared.suspension.SuspensionOperation.TheVariants.{SuspendUntilTrue}
use Rattle.rv_event.specs.declared.entry.Request.{Request}
use Rattle.rv_event.specs.declared.entry.Request.TheVariants.{Call, DelayUntil, Fire}
use Rattle.rv_event.specs.declared.entry.Rule.{Rule}
use Rattle.rv_event.specs.declared.entry.Rule.TheVariants.{Grant, Blocking, Reentry, Ceiling, Queue, Waiter}
use Rattle.rv_history.specs.History.{History, force}
use Rattle.rv_history.specs.Subject.{subject, active}
use Rattle.rv_history.specs.Exclusion.{is_barred, full_queue}

-- what a request calls: a fired line calls its handler
abbrev pub Aim : Type 0
Aim = ℕ × Target

-- the handler of a line, if it has one
abbrev pub aim_at : List Shape → Option OperationNumber → Aim
aim_at shapes None = (0, Nowhere)
aim_at shapes (Some number) = (number.object, target shapes number.object number.operation)

-- the object and the target of a request
abbrev pub aim : List Shape → ℕ → Request → Aim
aim shapes actor (Call object operation values) = (object, target shapes object operation)
aim shapes actor Fire = aim_at shapes (handler shapes (actor - 1))
aim shapes actor request = (0, Nowhere)

-- the line that decides a call by this unit at the clock, 0 where none does (own)
abbrev pub decided : History → List ℕ → Target → ℕ
decided h unit target = by_names 0 (λ object operation. decides (force h) unit object operation (clock h.past)) target

-- whether the list in force grants the call to this unit at the clock (own)
abbrev pub granted : History → List ℕ → Target → Bool
granted h unit target = by_names true (λ object operation. grants (force h) unit object operation (clock h.past)) target

-- only Suspend_Until_True may wait (D.10)
abbrev pub waits : SuspensionOperation → Bool
waits SetTrue = false
waits SetFalse = false
waits CurrentState = false
waits SuspendUntilTrue = true

-- an entry call, a delay or Suspend_Until_True: it might block (9.5.1)
abbrev pub may_block : Request → Target → Bool
may_block (Call object operation values) Nowhere = false
may_block (Call object operation values) (OnProtected site) = is_entry site.operation.kind
may_block (Call object operation values) (OnSuspension unit name wanted) = waits wanted
may_block (DelayUntil time) target = true
may_block request target = false

-- the actor is inside a protected action (9.5.1)
abbrev pub holds_any : History → ℕ → Bool
holds_any h actor = nat_lt 0 (length (held h.shapes actor h.past))

-- the actor holds the object
abbrev pub holds : History → ℕ → ℕ → Bool
holds h actor object = list_any (λ b. b.object == object) (held h.shapes actor h.past)

-- a call, and no fired line
abbrev pub is_call : Request → Bool
is_call (Call object operation values) = true
is_call request = false

-- of an operation of a protected object
abbrev pub is_protected : Target → Bool
is_protected Nowhere = false
is_protected (OnProtected site) = true
is_protected (OnSuspension unit name wanted) = false

-- the active priority is above the ceiling (D.3)
abbrev pub above : History → ℕ → Target → Bool
above h actor Nowhere = false
above h actor (OnProtected site) = nat_lt site.object.ceiling (active h actor)
above h actor (OnSuspension unit name wanted) = false

-- somebody holds the object, or it is unsettled
abbrev pub is_taken : History → ℕ → Bool
is_taken h object =
    list_any (λ b. b.object == object) (under_way h.shapes h.past) || is_unsettled h.shapes object h.past

-- whether the barrier keeps the call waiting
abbrev pub is_barred_at : History → ℕ → Target → Bool
is_barred_at h object Nowhere = false
is_barred_at h object (OnProtected site) = is_barred h object site.operation.kind
is_barred_at h object (OnSuspension unit name wanted) = false

-- of Suspend_Until_True (D.10)
abbrev pub suspends : Target → Bool
suspends Nowhere = false
suspends (OnProtected site) = false
suspends (OnSuspension unit name wanted) = waits wanted

-- the rules, one by one, for a request with this aim: 1 own, 2 and 3 of 9.5.1 with H.5, 4 of D.3, 5 of D.7, 6 of D.10
abbrev pub breaks : History → Rule → ℕ → Request → ℕ → Target → Bool
breaks h Grant actor request object target = not (granted h (subject h actor) target)
breaks h Blocking actor request object target = holds_any h actor && may_block request target
breaks h Reentry actor request object target = (is_call request && is_protected target) && holds h actor object
breaks h Ceiling actor request object target = above h actor target
breaks h Queue actor request object target =
    ((is_call request && is_barred_at h object target) && not (is_taken h object)) && full_queue h object
breaks h Waiter actor request object target =
    (is_call request && suspends target) && is_some (waiter object h.past)

-- the request violates the rule
abbrev pub violates : History → Rule → ℕ → Request → Bool
violates h rule actor request = breaks h rule actor request (aim h.shapes actor request).0 (aim h.shapes actor request).1

-- the first of these rules that passes a test
abbrev pub first_among : (Rule → Bool) → List Rule → Option Rule
first_among p [] = None
first_among p (rule ∷ rules) = if p rule then Some rule else first_among p rules

-- the rules in their order
abbrev pub rules : List Rule
rules = Grant ∷ Blocking ∷ Reentry ∷ Ceiling ∷ Queue ∷ Waiter ∷ []

-- the least rule that a request with this aim violates
abbrev pub first_at : History → ℕ → Request → ℕ → Target → Option Rule
first_at h actor request object target = first_among (λ rule. breaks h rule actor request object target) rules

-- the least rule that the request violates
abbrev pub first : History → ℕ → Request → Option Rule
first h actor request = first_at h actor request (aim h.shapes actor request).0 (aim h.shapes actor request).1

-- the first rule, which alone asks the list
abbrev pub is_grant : Rule → Bool
is_grant Grant = true
is_grant rule = false
