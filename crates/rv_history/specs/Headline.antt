-- When a body starts, and what a refusal does: the headline's own words (9.5.1 to 9.5.3, C.3, D.3).
use Rattle.std.specs.Prelude.{◌≡◌, ◌↔◌, ◌⊎◌, ℕ, ◌+◌, ℤ, List, true, false, nat_lt, not, ◌&&◌, codes, Some}
use Rattle.rv_shape.specs.Catalogue.{OperationNumber, Site, OnProtected, handler, is_entry, is_function, target}
use Rattle.rv_event.specs.Past.{halted, mode, started}
use Rattle.rv_event.specs.declared.entry.Answer.TheVariants as Answers
use Rattle.rv_event.specs.declared.entry.Body.{Body}
use Rattle.rv_event.specs.declared.entry.Entry.TheVariants.{Asked}
use Rattle.rv_event.specs.declared.entry.Mode.TheVariants.{Idle}
use Rattle.rv_event.specs.declared.entry.Next.TheVariants.{Nothing, HandedTo, Dropped}
use Rattle.rv_event.specs.declared.entry.Recorded.{Recorded}
use Rattle.rv_event.specs.declared.entry.Recorded.TheVariants.{Started, Done, Refused}
use Rattle.rv_event.specs.declared.entry.Request.{Request}
use Rattle.rv_event.specs.declared.entry.Request.TheVariants.{Call}
use Rattle.rv_event.specs.declared.entry.Rule.{Rule}
use Rattle.rv_history.specs.History.{History}
use Rattle.rv_history.specs.Exclusion.{excluded, is_open}
use Rattle.rv_history.specs.Rules.{aim, granted, violates}
use Rattle.rv_history.specs.Fitting.{fits}
use Rattle.rv_history.specs.Due.{goes_on}
use Rattle.rv_history.specs.HandOver.{IsDropped, IsHandedOver, IsOnlyDropped}
use Rattle.rv_history.specs.Legal.{after}
use Rattle.rv_history.specs.Refusal.{IsRefusal}
use Rattle.rv_history.specs.Untouched.{Untouched}

-- It is a call of a protected operation, or a fired line that is attached; it fits, the host isn't halted, no rule is
-- violated, nobody keeps it out, and the barrier of an entry is open.
pub record IsAllowed (h : History) (actor : ℕ) (request : Request) : Type 0 where
  pub object : ℕ
  pub site : Site
  pub wanted : aim h.shapes actor request ≡ (object, OnProtected site)
  pub fitting : fits h actor request ≡ true
  pub going : halted h.past ≡ false
  pub lawful : (rule : Rule) → violates h rule actor request ≡ false
  pub free : excluded h object (is_function site.operation.kind) ≡ false
  pub open_to : (is_entry site.operation.kind && not (is_open h object)) ≡ false

-- For a fired line, in its own terms: it is idle and has a handler, the host isn't halted, the list in force grants the
-- handler to `Interrupts`, the line's priority, 31 and its number, isn't above the ceiling, nobody holds the object and
-- it is settled.
pub record MayFire (h : History) (actor line : ℕ) : Type 0 where
  pub idle : mode h.shapes actor h.past ≡ Idle
  pub going : halted h.past ≡ false
  pub number : OperationNumber
  pub attached : handler h.shapes line ≡ Some number
  pub site : Site
  pub at : target h.shapes number.object number.operation ≡ OnProtected site
  pub grant : granted h (codes "Interrupts") (OnProtected site) ≡ true
  pub low : nat_lt site.object.ceiling (31 + line) ≡ false
  pub free : excluded h number.object false ≡ false

-- A queued call violates no rule, whatever values it was made with.
abbrev pub IsLawful : History → Body → Type 0
IsLawful h call =
    (values : List ℤ) (rule : Rule) → violates h rule call.actor (Call call.object call.operation values) ≡ false

-- The headline, of a request that got this recorded answer after these entries. It started a body exactly where it was
-- allowed: the one that it calls. It handed the object over to a queued caller exactly where it reached its call and the
-- list in force grants it; then that call's body starts, and violates no rule. It dropped a queued caller exactly where it
-- reached its call and the list denies it, and that is all that the denial changed. No body starts otherwise. A refused
-- call, delay or fired line names the first rule that it violates, and changes nothing that the rules ask.
pub record Headline (h : History) (actor : ℕ) (request : Request) (answer : Recorded) : Type 0 where
  pub starts : (answer ≡ Started) ↔ IsAllowed h actor request
  pub hands_over : (caller : ℕ) → (answer ≡ Done (HandedTo caller)) ↔ IsHandedOver h actor request caller
  pub takes_over : (caller : ℕ) → (over : IsHandedOver h actor request caller) → answer ≡ Done (HandedTo caller) →
      started h.shapes h.past (Asked actor request answer) ≡ Some over.call
  pub lawfully : (caller : ℕ) → (over : IsHandedOver h actor request caller) → IsLawful h over.call
  pub drops : (caller line : ℕ) → (answer ≡ Done (Dropped caller line)) ↔ IsDropped h actor request caller line
  pub only_drops : (caller line : ℕ) → answer ≡ Done (Dropped caller line) →
      IsOnlyDropped h (after h actor request (Answers.Done (Dropped caller line))) (after h actor request (Answers.Done Nothing)) actor caller
  pub nowhere_else : (body : Body) → started h.shapes h.past (Asked actor request answer) ≡ Some body →
      (answer ≡ Started) ⊎ ((caller : ℕ) × (answer ≡ Done (HandedTo caller)))
  pub names_first : (rule : Rule) (line list_version : ℕ) → goes_on request ≡ false →
      answer ≡ Refused rule line list_version → IsRefusal h actor request rule line list_version
  pub changes_nothing : (rule : Rule) (line list_version : ℕ) → goes_on request ≡ false →
      answer ≡ Refused rule line list_version → Untouched h (after h actor request (Answers.Refused rule line list_version))
