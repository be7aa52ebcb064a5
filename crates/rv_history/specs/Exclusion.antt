-- Who keeps whom out of an object (9.5.1), its barrier (9.5.2, 9.5.3) and its queue (D.7).
use Rattle.std.specs.Prelude.{ℕ, Bool, true, false, ◌==◌, nat_lt, ◌&&◌, ◌||◌, not, List, length, Some, None, Option, ℤ, pos}
use Rattle.std.specs.Prelude.{int_le}
use Rattle.std.specs.List.{list_any}
use Rattle.rv_shape.specs.Shape.{Shape}
use Rattle.rv_shape.specs.Catalogue.{UnitObject, place, target, shares, is_entry, numbered, barrier, operations_of}
use Rattle.rv_event.specs.Past.{under_way, queue, scalars, is_unsettled}
use Rattle.rv_event.specs.declared.entry.Body.{Body}
use Rattle.rv_shape.specs.declared.kind.Barrier.{Barrier}
use Rattle.rv_shape.specs.declared.kind.Barrier.TheVariants.{AlwaysOpen, AlwaysClosed, Component}
use Rattle.rv_shape.specs.declared.kind.Kind.{Kind}
use Rattle.rv_history.specs.History.{History}

-- the body is on the object, and it or the operation that is asked for isn't a function
abbrev pub conflicts : List Shape → ℕ → Bool → Body → Bool
conflicts shapes object function body =
    (body.object == object) && not (function && shares (target shapes body.object body.operation))

-- somebody holds the object, and one of the two operations isn't a function (9.5.1); or it is unsettled (own)
abbrev pub excluded : History → ℕ → Bool → Bool
excluded h object function =
    list_any (conflicts h.shapes object function) (under_way h.shapes h.past) || is_unsettled h.shapes object h.past

-- a component is True: its value is 1
abbrev pub is_one : Option ℤ → Bool
is_one None = false
is_one (Some value) = int_le (pos 1) value && int_le value (pos 1)

-- the barrier is open on these scalars
abbrev pub opens : Barrier → List ℤ → Bool
opens AlwaysOpen values = true
opens AlwaysClosed values = false
opens (Component number) values = is_one (numbered values number)

-- the barrier of the object's entry, of which there is at most one
abbrev pub barrier_at : Option UnitObject → Option Barrier
barrier_at None = None
barrier_at (Some found) = barrier (operations_of found.object)

-- the same for an object that may have no entry: nothing opens then
abbrev pub opens_on : Option Barrier → List ℤ → Bool
opens_on None values = false
opens_on (Some guard) values = opens guard values

-- the object's barrier is open on its scalars
abbrev pub is_open : History → ℕ → Bool
is_open h object = opens_on (barrier_at (place h.shapes object)) (scalars h.shapes object h.past)

-- the barrier keeps a call of the operation waiting: it is an entry, and its barrier is closed (9.5.3)
abbrev pub is_barred : History → ℕ → Kind → Bool
is_barred h object kind = is_entry kind && not (is_open h object)

-- the queue has its limit of callers (D.7)
abbrev pub full_queue : History → ℕ → Bool
full_queue h object = not (nat_lt (length (queue object h.past)) h.limits.queue)
