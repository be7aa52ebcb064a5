use Rattle.std.proofs.Common.{[], refl}
use Rattle.rv_port.specs.declared.fault.PortFault.TheVariants as Faults
use Rattle.rv_script.proofs.Wrote.{keeps_nothing}
use Rattle.rv_staff.specs.Saying.{no_memory_line}
use Rattle.rv_staff.proofs.Starting.{none_given}
use Rattle.rv_staff.proofs.staffing.staff_one.Goals as goal

pub returns-in-Err-NoMemory : goal.returns-in-Err-NoMemory
returns-in-Err-NoMemory g c =
    let stands = rw c.in-Err-NoMemory.field-0-is at c.in-Err-NoMemory.ensures.fault in
    (no_memory_line, none_given c.args.session.now.staff c.port.new.self c.args.actor Faults.NoMemory no_memory_line stands c.in-Err-NoMemory.ensures.err refl, c.say.ensures)

pub returns-in-Err-Taken : goal.returns-in-Err-Taken
returns-in-Err-Taken g c =
    let stands = rw c.in-Err-Taken.field-0-is at c.in-Err-Taken.ensures.fault in
    ([], none_given c.args.session.now.staff c.port.new.self c.args.actor Faults.Taken [] stands c.in-Err-Taken.ensures.err refl, keeps_nothing _)

pub returns-in-Err-NoActor : goal.returns-in-Err-NoActor
returns-in-Err-NoActor g c =
    let stands = rw c.in-Err-NoActor.field-0-is at c.in-Err-NoActor.ensures.fault in
    ([], none_given c.args.session.now.staff c.port.new.self c.args.actor Faults.NoActor [] stands c.in-Err-NoActor.ensures.err refl, keeps_nothing _)

pub returns-in-Err-Worn : goal.returns-in-Err-Worn
returns-in-Err-Worn g c =
    let stands = rw c.in-Err-Worn.field-0-is at c.in-Err-Worn.ensures.fault in
    ([], none_given c.args.session.now.staff c.port.new.self c.args.actor Faults.Worn [] stands c.in-Err-Worn.ensures.err refl, keeps_nothing _)
