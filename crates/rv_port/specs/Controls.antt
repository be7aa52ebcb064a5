-- What the control of a host behind a turn gives out. (own)
use Rattle.std.specs.Prelude.{◌≡◌, ◌⊎◌, ℕ, map, reverse, is_some, ◌<◌, ◌≤◌, Bool, true, false, ◌==◌, ◌||◌, List, [], ◌∷◌, ◌++◌, Option, Some, Result, Ok, Err}
use Rattle.atomic_table.specs.Seated.{TableId}
use Rattle.rv_access.specs.Words.{Words}
use Rattle.rv_shape.specs.Shape.{Shape}
use Rattle.rv_event.specs.declared.entry.Entry.{Entry}
use Rattle.rv_event.specs.declared.entry.Entry.TheVariants.{Asked, Load, ListChange}
use Rattle.rv_event.specs.declared.entry.Answer.{Answer}
use Rattle.rv_event.specs.declared.entry.Answer.TheVariants.{Accepted, Misuse}
use Rattle.rv_turn.specs.Histories.{mine}
use Rattle.rv_turn.specs.Passes.{Acted, Parted, IsWorn, opening_of}
use Rattle.rv_code.specs.Bodies as Code
use Rattle.rv_code.specs.BodyView.{unit_view}
use Rattle.rv_code.specs.declared.body.UnitBodies.{UnitBodies}
use Rattle.rv_fits.specs.Fits.{are_of}
use Rattle.rv_exec.specs.Bodies.{held}
use Rattle.rv_exec.specs.declared.bodies.SharedUnit.{SharedUnit}
use Rattle.rv_history.specs.History.{History}
use Rattle.rv_host.specs.Pages.{item_by, Item}
use Rattle.rv_behind.specs.Events.{by, log_of, catalogue_of, lists_of}
use Rattle.rv_behind.specs.declared.event.Event.{Event}
use Rattle.rv_behind.specs.Acting.{BodiesFit, Does}
use Rattle.rv_port.specs.Actors.{is_performer}
use Rattle.rv_port.specs.Traces.{Passing}
use Rattle.rv_port.specs.declared.fault.PortFault.{PortFault}
use Rattle.rv_port.specs.declared.fault.PortFault.TheVariants.{Taken, NoActor, NoMemory, Worn}
use Rattle.rv_port.specs.declared.fault.LoadFault.{LoadFault}
use Rattle.rv_port.specs.declared.fault.LoadFault.TheVariants as LoadFaults
use Rattle.rv_port.specs.declared.fault.PageFault.{PageFault}
use Rattle.rv_port.specs.declared.fault.PageFault.TheVariants as PageFaults
use Rattle.rv_behind.specs.declared.event.Ask.{Ask}
use Rattle.rv_behind.specs.declared.event.Reply.{Reply}
use Rattle.rv_behind.specs.declared.event.Reply.TheVariants as Gives

-- all entries are the operator's (own)
abbrev pub OperatorAlone : List Entry → Type 0
OperatorAlone [] = Unit {0}
OperatorAlone (Asked actor request word ∷ past) = (actor ≡ 0) × OperatorAlone past
OperatorAlone (Load ∷ past) = OperatorAlone past
OperatorAlone (ListChange ∷ past) = OperatorAlone past

-- a number stands in a list (own)
abbrev pub listed : ℕ → List ℕ → Bool
listed a [] = false
listed a (x ∷ xs) = (x == a) || listed a xs

-- how many acts a port may make: 2^50 (own)
abbrev pub port_acts : ℕ
port_acts = 1125899906842624

-- Why no port is given: of several faults the first; what was given, and the catalogue and the acts of the control. (own)
abbrev pub IsPortFault : ℕ → List ℕ → List Shape → ℕ → PortFault → Type 0
IsPortFault actor given shapes left Taken = listed actor given ≡ true
IsPortFault actor given shapes left NoActor = (listed actor given ≡ false) × (is_performer shapes actor ≡ false)
IsPortFault actor given shapes left Worn =
    (listed actor given ≡ false) × (is_performer shapes actor ≡ true) × (left < port_acts)
IsPortFault actor given shapes left NoMemory =
    (listed actor given ≡ false) × (is_performer shapes actor ≡ true) × (port_acts ≤ left)

-- A port is given: to one who may have one, and had none. (own)
pub record IsGiven (control : Passing) (actor : ℕ) (after port : Passing) : Type 0 where
  pub new : listed actor control.given ≡ false
  pub performer : is_performer (catalogue_of control.seen) actor ≡ true
  pub parted : Parted by control actor port_acts after port

-- the answer in a reply; a page, its entries, a view and bodies have none (own)
abbrev pub answer_in : Reply → Answer
answer_in (Gives.Answered answer begun lent) = answer
answer_in (Gives.Read page) = Misuse
answer_in (Gives.Entries marked) = Misuse
answer_in Gives.Unread = Misuse
answer_in (Gives.Viewed view) = Misuse
answer_in (Gives.Bodies lent) = Misuse

-- it was carried out (own)
abbrev pub is_accepted : Answer → Bool
is_accepted (Accepted value) = true
is_accepted r = false

-- an ask that loads no unit (own)
abbrev pub LoadsNothing : Ask → Type 0
LoadsNothing (Ask.Load shape unit) = ⊥
LoadsNothing ask = Unit {0}

-- an ask that changes no list (own)
abbrev pub ListsNothing : Ask → Type 0
ListsNothing (Ask.Change change) = ⊥
ListsNothing ask = Unit {0}

-- the lists that were in force in a turn's history, in order (own)
abbrev pub lists_at : List Event → List (List Words)
lists_at log = lists_of (reverse log)

-- where a control keeps lists, they are these (own)
abbrev pub AreKept : Option (List (List Words)) → List (List Words) → Type 0
AreKept kept lists = (some : List (List Words)) → kept ≡ Some some → some ≡ lists

-- the page that entries make with the names and the lists that they are read by (own)
abbrev pub IsWorded : List Shape → List (List Words) → Reply → List Item → Type 0
IsWorded shapes lists (Gives.Entries marked) items = items ≡ map (item_by shapes lists) marked.items
IsWorded shapes lists reply items = ⊥

-- An answer to an ask of the operator: it is due on a legal history that begins with all that was seen. (own)
abbrev pub Told : Passing → Ask → Answer → Passing → Type 0
Told v ask r w = (reply : Reply) × (r ≡ answer_in reply) × Acted by Does v ask reply w

-- A load is answered: of the unit with such bodies, or as one that there is no memory for, which is never accepted. (own)
abbrev pub LoadTold : Passing → Shape → (UnitBodies → Type 0) → Answer → Passing → Type 0
LoadTold v shape Such r w =
    ((unit : SharedUnit) × Such (held unit) × Told v (Ask.Load shape unit) r w) ⊎ Told v (Ask.LoadWithoutMemory shape) r w

-- the bodies of a unit that was loaded as a shape alone: none (own)
abbrev pub no_bodies_of : Shape → Code.UnitBodies
no_bodies_of = Code.without_bodies

-- the bodies that a load brings: those given with the shape, where they may be, else none (own)
abbrev pub BringsIf : Bool → Shape → UnitBodies → UnitBodies → Type 0
BringsIf true shape given unit = unit ≡ given
BringsIf false shape given unit = unit_view unit ≡ no_bodies_of shape

abbrev pub Brings : List Shape → Shape → UnitBodies → UnitBodies → Type 0
Brings shapes shape given unit = BringsIf (are_of shapes shape (unit_view given)) shape given unit

-- the answer to a load, where an act was left
abbrev pub answer_or_worn : {E : Type 0} → Result Answer E → Result Answer LoadFault
answer_or_worn (Ok answer) = Ok answer
answer_or_worn (Err e) = Err LoadFaults.Worn

-- Why nothing was asked of a load: the unit's bodies don't fit the catalogue with its shape, and nothing changed; or no act was
-- left. (own)
abbrev pub IsLoadFault : Passing → Shape → UnitBodies → LoadFault → Passing → Type 0
IsLoadFault v shape bodies LoadFaults.Unfit w = (are_of (catalogue_of v.seen) shape (unit_view bodies) ≡ false) × (w ≡ v)
IsLoadFault v shape bodies LoadFaults.Worn w = IsWorn v w

-- The history that a control begins with is that of the host, whose units have no bodies. (own)
abbrev pub BeginsWith : History → List Event → Type 0
BeginsWith h log = (units : List UnitBodies) × (map unit_view units ≡ map no_bodies_of h.shapes) × (log ≡ log_of h units)

-- a control begins with a host (own)
abbrev pub IsControlOf : History → Passing → Type 0
IsControlOf host control = BeginsWith host control.seen × (control ≡ opening_of control.turn host.limits by control.seen)

-- The pass of a control is the first of its turn; the control knows who was given a port, the catalogue, and the lists, where it
-- keeps any; the calls of all bodies fit the units. (own)
pub record IsControl (turn : TableId) (pass : Passing) (given : List ℕ) (catalogue : List Shape) (lists : Option (List (List Words))) : Type 0 where
  pub here : pass.turn ≡ turn
  pub first : pass.first ≡ true
  pub operator : pass.actor ≡ 0
  pub given_is : pass.given ≡ given
  pub owns : mine by 0 pass.seen ≡ pass.base ++ pass.own
  pub limited : is_some pass.about ≡ true
  pub catalogue_is : catalogue ≡ catalogue_of pass.seen
  pub lists_are : AreKept lists (lists_at pass.seen)
  pub fit : BodiesFit pass.seen

-- What every control keeps: it is the operator's, its limits are known, and its own events are the operator's in all that it has seen, behind those
-- that the host had at first, which are the operator's too. (own)
pub record IsOperators (control : Passing) : Type 0 where
  pub first : control.first ≡ true
  pub actor : control.actor ≡ 0
  pub limited : is_some control.about ≡ true
  pub opening : mine by 0 control.base ≡ control.base
  pub owns : mine by 0 control.seen ≡ control.base ++ control.own

-- What every port keeps, also one that is done: its limits are known, and its own events are its actor's in all that it has
-- seen, each once and in their order. (own)
pub record IsPorts (port : Passing) : Type 0 where
  pub first : port.first ≡ false
  pub limited : is_some port.about ≡ true
  pub base : port.base ≡ []
  pub owns : mine by port.actor port.seen ≡ port.own

-- no page: there was no memory for it, or no act was left, and nothing changed (own)
abbrev pub PageFailed : Passing → ℕ → PageFault → Passing → Type 0
PageFailed v from PageFaults.NoMemory w = Acted by Does v (Ask.Read from) Gives.Unread w
PageFailed v from PageFaults.Worn w = IsWorn v w
