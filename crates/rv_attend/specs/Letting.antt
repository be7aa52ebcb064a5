-- Which units the loads of a run may bring: where what is kept of its journal doesn't fit with a unit more, that isn't let in. (own)
use Rattle.std.specs.Prelude.{◌≡◌, ℕ, ◌+◌, min, Bool, true, not, ◌&&◌, ◌||◌, nat_le, List, length, Option, Some, None, is_some}
use Rattle.std.specs.List.{count_by, list_any}
use Rattle.rv_room.specs.Booked.{books_need}
use Rattle.rv_room.specs.declared.books.Books.{Books}
use Rattle.rv_shape.specs.Catalogue.{all_tasks, handler, operations_of}
use Rattle.rv_shape.specs.Kinds.{handles}
use Rattle.rv_shape.specs.Shape.{Shape}
use Rattle.rv_shape.specs.declared.object.Object.{Object}
use Rattle.rv_attend.specs.Going.{Terms}
use Rattle.rv_attend.specs.Least.{count_below, is_kind, owed_of, protected}

-- how many tasks a unit has, which are 64 at most
abbrev pub tasks_in : Shape → ℕ
tasks_in shape = min (length shape.tasks) 64

-- Where the run lasts

-- how many of these objects are protected ones
abbrev pub protected_in : List Object → ℕ
protected_in objects = count_by is_kind objects

-- one of these objects has the handler of a line
abbrev pub handle : List Object → ℕ → Bool
handle objects line = list_any (λ object. list_any (λ operation. handles line operation.kind) (operations_of object)) objects

-- how many of the ten lines have a handler with a unit more
abbrev pub lines_with : List Shape → Shape → ℕ
lines_with shapes shape = count_below (λ line. is_some (handler shapes line) || handle shape.objects line) 10

-- how deep bodies call at most then
abbrev pub depth_with : List Shape → Shape → ℕ
depth_with shapes shape = min (protected shapes + protected_in shape.objects) 16

-- the least capacity of a run that lasts, with a unit more
abbrev pub least_with : List Shape → Shape → ℕ
least_with shapes shape = owed_of (length (all_tasks shapes) + tasks_in shape) (depth_with shapes shape) (lines_with shapes shape) + 2

abbrev pub is_enough_with : Terms → List Shape → Shape → Bool
is_enough_with terms shapes shape = not terms.asked.lasting || nat_le (least_with shapes shape) terms.capacity

-- Where entries are kept for the operator

-- the books of a run with such a quota and room for its operator, if it keeps any, and with what was counted of the operator so far
abbrev pub books_by : Option ℕ → Option ℕ → Books → Option Books
books_by None kept counted = None
books_by (Some quota) None counted = None
books_by (Some quota) (Some kept) counted = Some (record counted { quota = quota; kept = kept })

-- a journal of a capacity holds what books need with a unit more
abbrev pub fit_with : Option Books → ℕ → List Shape → Shape → Bool
fit_with None capacity shapes shape = true
fit_with (Some books) capacity shapes shape =
    nat_le (books_need books (length shapes + 1) (length (all_tasks shapes) + tasks_in shape)) capacity

-- Both

abbrev pub is_let_in : Terms → Books → List Shape → Shape → Bool
is_let_in terms counted shapes shape =
    is_enough_with terms shapes shape
    && fit_with (books_by terms.asked.quota terms.asked.operator_room counted) terms.capacity shapes shape

-- whether a unit is let in, behind what was counted of the operator so far
abbrev pub LetsIn : Terms → List Shape → Shape → Bool → Type 0
LetsIn terms shapes shape admitted = (counted : Books) × (admitted ≡ is_let_in terms counted shapes shape)
