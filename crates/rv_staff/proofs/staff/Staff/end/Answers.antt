use Rattle.std.specs.Prelude.{is_some}
use Rattle.rv_staff.proofs.OneTurn.{moved, halts_stay, halted, ended}
use Rattle.rv_staff.proofs.staff.Staff.end.Goals as goal

pub close-requires : goal.close-requires
close-requires g c =
    let stays = halts_stay c.self.inside.control c.halt.new.self (halted c.self.inside.control c.halt.new.self c.halt.result c.halt.ensures) in
    moved c.self.inside.control c.halt.new.self c.self.inside.crew stays c.self.invariant

pub returns : goal.returns
returns g c =
    let halts = halted c.self.inside.control c.halt.new.self c.halt.result c.halt.ensures in
    rw (← c.self.view_is) (ended (is_some c.args.within) (record { control = c.self.inside.control; crew = c.self.inside.crew }) c.halt.new.self c.close.result halts c.close.ensures)
