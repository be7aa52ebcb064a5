use Rattle.std.proofs.Common.{◌≡◌, List, Err, rules, subst}
use Rattle.rv_behind.specs.Events.{catalogue_of}
use Rattle.rv_shape.specs.Shape.{Shape}
use Rattle.rv_crew.specs.declared.hiring.HireFault.TheVariants.{NoThread, GivenUp, NoMemory}
use Rattle.rv_staff.specs.Saying.{SaysNoThread}
use Rattle.rv_staff.proofs.Starting.{given_up_said, no_memory_said, no_thread_said}
use Rattle.rv_staff.proofs.staffing.explain.Goals as goal

pub returns-in-Err-NoThread : goal.returns-in-Err-NoThread
returns-in-Err-NoThread g c =
    let is : c.args.hired ≡ Err NoThread = search rules in
    let says = subst (λ (shapes : List Shape). SaysNoThread (g.W.Write.contents c.args.writer.now) (g.W.Write.contents c.say_no_thread.new.writer) shapes c.args.actor c.say_no_thread.result) c.catalogue.ensures c.say_no_thread.ensures in
    no_thread_said _ _ (catalogue_of c.args.session.now.staff.control.seen) c.args.actor c.args.hired c.say_no_thread.result is says

pub returns-in-Err-GivenUp : goal.returns-in-Err-GivenUp
returns-in-Err-GivenUp g c =
    let is : c.args.hired ≡ Err GivenUp = search rules in
    given_up_said _ _ (catalogue_of c.args.session.now.staff.control.seen) c.args.actor c.args.hired c.say.result is c.say.ensures

pub returns-in-Err-NoMemory : goal.returns-in-Err-NoMemory
returns-in-Err-NoMemory g c =
    let is : c.args.hired ≡ Err NoMemory = search rules in
    no_memory_said _ _ (catalogue_of c.args.session.now.staff.control.seen) c.args.actor c.args.hired c.say-in-Err-NoMemory.result is c.say-in-Err-NoMemory.ensures
