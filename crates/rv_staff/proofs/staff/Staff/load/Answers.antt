use Rattle.rv_staff.proofs.staff.Staff.load.Goals as goal

pub returns-clause-told : goal.returns-clause-told
returns-clause-told g c = rw (← c.self.view_is) c.load_or_shape.ensures
