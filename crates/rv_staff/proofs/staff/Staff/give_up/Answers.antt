use Rattle.std.proofs.Common.{◌≡◌, rules}
use Rattle.rv_staff.proofs.OneTurn.{given_up_stay}
use Rattle.rv_staff.proofs.staff.Staff.give_up.Goals as goal

pub invariant_of-self : goal.invariant_of-self
invariant_of-self c =
    let turn : c.args.port.turn ≡ c.self.inside.control.turn = search rules in
    given_up_stay c.self.inside.control c.self.inside.crew c.give_up.new.crew c.args.port c.give_up.result turn c.self.invariant c.give_up.ensures
