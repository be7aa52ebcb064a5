use denote.Param.Send.{sendable}
use denote.Param.Sent.{Sends}
use mir.Syntax.{Dict}
use Rattle.std.proofs.Crossing.{crosses}
use Rattle.thread_rows.proofs.Sending.{role_send}
use Rattle.thread_rows.proofs.fn.main.begin.OwnLists.{part-1-1}

-- the role goes to the thread of its job
pub sends-part-1-1 : (d1 d2 : Dict) → Sends (part-1-1 d1 d2)
sends-part-1-1 d1 d2 = search (role_send, crosses, sendable) depth 60 fits 20000
