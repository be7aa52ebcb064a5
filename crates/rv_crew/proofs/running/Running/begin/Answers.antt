use denote.Param.Object as object
use denote.Param.Send.{IsSend, sendable}
use Rattle.std.proofs.Crossing.{crosses, dyn_box_send}
use Rattle.rv_crew.specs.contracts.running.Running.begin.dyn-1 as boxed
use Rattle.std.specs.contracts.alloc.Global as global
use Rattle.std.specs.contracts.impls.GlobalAllocator.TheImpl.{ghosts}
use Rattle.std.specs.contracts.sync.Arc as arc
use Rattle.std.proofs.alloc.Global.TheSendSync as global_crosses
use Rattle.std.proofs.sync.Arc.TheSendSync as arc_crosses
use Rattle.std.below.std_heap.proofs.GlobalAllocator.TheSendSync as heap_crosses
use Rattle.rv_port.proofs.Sends.{port_send, finished_send}
use Rattle.rv_crew.specs.contracts.running.Mark as mark
use Rattle.rv_crew.proofs.running.Mark.TheSendSync as mark_crosses
use Rattle.rv_crew.proofs.running.Running.begin.Goals as goal

mark_send : IsSend (arc.the_row mark.the_row global.the_row ghosts)
mark_send = arc_crosses.the_send mark.the_row global.the_row ghosts mark_crosses.the_send global_crosses.the_send mark_crosses.the_sync global_crosses.the_sync heap_crosses.the_frees

-- the boxed job, the port and the mark go to the thread
pub spawn_with-begun-requires-send-F : goal.spawn_with-begun-requires-send-F
spawn_with-begun-requires-send-F g c κs within =
    search (
      dyn_box_send (object.Vt (boxed.slots g.row.D g.row.R) g.dyn-1.0) (object.ghosts_of (boxed.slots g.row.D g.row.R) g.dyn-1.0 g.dyn-1.1) g.dyn-1.2,
      port_send,
      mark_send,
      crosses,
      sendable,
    ) depth 60 fits 20000

-- what it gives comes back
pub spawn_with-begun-requires-send-T : goal.spawn_with-begun-requires-send-T
spawn_with-begun-requires-send-T g c κs within = search (finished_send, sendable) depth 60 fits 20000
