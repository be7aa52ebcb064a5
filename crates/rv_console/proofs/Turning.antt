-- A page that was read is turned, whatever comes of its text.
use Rattle.std.proofs.Common.{ℕ, inl, inr, refl, List, Ok, Err}
use Rattle.std.specs.Prelude.{Result}
use Rattle.rv_port.specs.Traces.{Passing}
use Rattle.rv_port.specs.declared.fault.PageFault.{PageFault}
use Rattle.rv_port.specs.declared.fault.PageFault.TheVariants as PageFaults
use Rattle.rv_shell.specs.Serving.{Writes, Written, of_page}
use Rattle.rv_shell.specs.declared.shell.LineFault.{LineFault}
use Rattle.rv_shell.specs.declared.shell.LineFault.TheVariants.{NoMemory, Write, Worn}
use Rattle.rv_shell.specs.declared.shell.Next.{Next}
use Rattle.rv_console.specs.Console.{Turned, TurnsPage}

pub turned : (old new : Written) (text : List ℕ) (first from : ℕ) (v w : Passing) (next : ℕ) (result : Result Next LineFault) → Writes old new text result
    → Turned first from v w next → TurnsPage first from v w next result
turned old new text first from v w next (Ok go) written is = is
turned old new text first from v w next (Err (Write error)) written is = is
turned old new text first from v w next (Err NoMemory) written is = inr is
turned old new text first from v w next (Err Worn) written is = absurd written

-- where there was none, nothing is turned
pub unturned : (first from : ℕ) (v w : Passing) (fault : PageFault) → TurnsPage first from v w first (Err (of_page fault))
unturned first from v w PageFaults.NoMemory = inl refl
unturned first from v w PageFaults.Worn = refl
