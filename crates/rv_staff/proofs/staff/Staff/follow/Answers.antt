use Rattle.rv_staff.proofs.OneTurn.{moved, reads_stay}
use Rattle.rv_staff.proofs.staff.Staff.follow.Goals as goal

pub invariant_of-self : goal.invariant_of-self
invariant_of-self g c = moved c.self.inside.control c.follow.new.control c.self.inside.crew (reads_stay c.self.inside.control c.follow.new.control c.follow.ensures.reads) c.self.invariant
