-- What is kept for the operator's list changes, where each unit has an allowance. (own)
use Rattle.std.specs.Prelude.{ℕ, Bool, true, List, Option, None, Some, length, nat_le}
use Rattle.rv_room.specs.Booked.{books_need, one_more}
use Rattle.rv_room.specs.declared.books.Books.{Books}
use Rattle.rv_shape.specs.Catalogue.{all_tasks}
use Rattle.rv_shape.specs.Shape.{Shape}

-- a journal of a capacity holds what the books need
abbrev pub fit : List Shape → Books → ℕ → Bool
fit shapes books capacity = nat_le (books_need books (length shapes) (length (all_tasks shapes))) capacity

-- the same with ticks more
abbrev pub fit_ticks : List Shape → Books → ℕ → Bool
fit_ticks shapes books capacity = fit shapes (record books { ticks = one_more books.ticks }) capacity

-- the same, where there are books
abbrev pub fit_if : List Shape → Option Books → ℕ → Bool
fit_if shapes None capacity = true
fit_if shapes (Some books) capacity = fit shapes books capacity
