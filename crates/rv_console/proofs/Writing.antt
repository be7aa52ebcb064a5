-- What was asked and what is written of it make what a word does.
use Rattle.std.proofs.Common.{ℕ, inl, inr, refl, List, Ok, Err}
use Rattle.std.specs.Prelude.{Result}
use Rattle.rv_behind.specs.Acting.{Does}
use Rattle.rv_behind.specs.Events.{by}
use Rattle.rv_behind.specs.declared.event.Ask.{Ask}
use Rattle.rv_behind.specs.declared.event.Reply.TheVariants as Gives
use Rattle.rv_port.specs.Traces.{Passing}
use Rattle.rv_port.specs.Viewing.{NotViewed}
use Rattle.rv_port.specs.declared.fault.PageFault.{PageFault}
use Rattle.rv_port.specs.declared.fault.PageFault.TheVariants as PageFaults
use Rattle.rv_shell.specs.Serving.{Writes, Written, of_page}
use Rattle.rv_shell.specs.declared.shell.LineFault.{LineFault}
use Rattle.rv_shell.specs.declared.shell.LineFault.TheVariants.{NoMemory, Write, Worn}
use Rattle.rv_shell.specs.declared.shell.Next.{Next}
use Rattle.rv_turn.specs.Passes.{Acted}
use Rattle.rv_view.specs.Views.{Shown}
use Rattle.rv_console.specs.Console.{NotShown, ShowsOrWorn}

pub shows_by : (text : Shown → List ℕ) (old new : Written) (v w : Passing) (view : Shown) (result : Result Next LineFault)
    → Acted by Does v Ask.View (Gives.Viewed view) w → Writes old new (text view) result → ShowsOrWorn text old new v w result
shows_by text old new v w view (Ok next) told written = record { view = view; told = told; written = written }
shows_by text old new v w view (Err (Write error)) told written = record { view = view; told = told; written = written }
shows_by text old new v w view (Err NoMemory) told written = inr record { view = view; told = told; written = written }
shows_by text old new v w view (Err Worn) told written = absurd written

-- nothing is shown
pub none_shown : (text : Shown → List ℕ) (old : Written) (v w : Passing) (fault : LineFault) → NotShown v fault w → ShowsOrWorn text old old v w (Err fault)
none_shown text old v w (Write error) none = absurd none
none_shown text old v w NoMemory none = inl (none, refl)
none_shown text old v w Worn none = (none, refl)

pub unviewed : (v w : Passing) (fault : PageFault) → NotViewed v fault w → NotShown v (of_page fault) w
unviewed v w PageFaults.NoMemory none = none
unviewed v w PageFaults.Worn none = none
