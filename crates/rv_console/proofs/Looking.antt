-- The console only looks.
use Rattle.std.proofs.Common.{ℕ, inl, inr, refl, Ok, Err}
use Rattle.std.specs.Prelude.{Result}
use Rattle.rv_behind.specs.Acting.{Does}
use Rattle.rv_behind.specs.Events.{by}
use Rattle.rv_behind.specs.declared.event.Ask.{Ask}
use Rattle.rv_behind.specs.declared.event.Reply.TheVariants as Gives
use Rattle.rv_port.specs.Traces.{Passing}
use Rattle.rv_port.specs.Viewing.{NotViewed}
use Rattle.rv_port.specs.declared.fault.PageFault.{PageFault}
use Rattle.rv_port.specs.declared.fault.PageFault.TheVariants as PageFaults
use Rattle.rv_shell.specs.Serving.{ReadsOrWorn, Written}
use Rattle.rv_shell.specs.declared.shell.LineFault.{LineFault}
use Rattle.rv_shell.specs.declared.shell.LineFault.TheVariants.{NoMemory, Write, Worn}
use Rattle.rv_shell.specs.declared.shell.Next.{Next}
use Rattle.rv_turn.specs.Passes.{Acted}
use Rattle.rv_view.specs.Views.{Shown}
use Rattle.rv_console.specs.Console.{Looks}

pub none_looks : (v : Passing) → Looks v v
none_looks v = inl refl

pub viewed_looks : (v w : Passing) (view : Shown) → Acted by Does v Ask.View (Gives.Viewed view) w → Looks v w
viewed_looks v w view acted = inr (Ask.View, Gives.Viewed view, tt, acted)

pub unviewed_looks : (v w : Passing) (fault : PageFault) → NotViewed v fault w → Looks v w
unviewed_looks v w PageFaults.NoMemory acted = inr (Ask.View, Gives.Unread, tt, acted)
unviewed_looks v w PageFaults.Worn worn = inl worn.1

pub pages_look : (old new : Written) (v w : Passing) (from : ℕ) (result : Result Next LineFault) → ReadsOrWorn old new v w from result → Looks v w
pages_look old new v w from (Ok next) reads = inr (Ask.Read from, Gives.Read reads.page, tt, reads.told)
pages_look old new v w from (Err (Write error)) reads = inr (Ask.Read from, Gives.Read reads.page, tt, reads.told)
pages_look old new v w from (Err NoMemory) (inl none) = inr (Ask.Read from, Gives.Unread, tt, none.0)
pages_look old new v w from (Err NoMemory) (inr reads) = inr (Ask.Read from, Gives.Read reads.page, tt, reads.told)
pages_look old new v w from (Err Worn) none = inl none.0.1
