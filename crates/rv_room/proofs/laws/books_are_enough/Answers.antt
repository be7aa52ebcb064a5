use Rattle.rv_room.proofs.Booking as booking
use Rattle.rv_room.proofs.laws.books_are_enough.Goals as goal

pub returns : goal.returns
returns c = booking.are_enough
