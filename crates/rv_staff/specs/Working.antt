-- What a thread does with the port of its actor. (own)
use Rattle.std.specs.Prelude.{◌≡◌, ◌⊎◌, ℕ, List, Result}
use Rattle.std.specs.declared.io.Error.{Error}
use Rattle.rv_actor.specs.Serving.{At, ServesTask}
use Rattle.rv_shape.specs.Shape.{Shape}
use Rattle.rv_event.specs.declared.entry.Exit.{Exit}
use Rattle.rv_port.specs.Calls.{Quits}
use Rattle.rv_port.specs.Following.{FollowsUnless}
use Rattle.rv_port.specs.Ports.{Porting, pass_of}
use Rattle.rv_port.specs.Texts.{LeavesText, TextRan}
use Rattle.rv_crew.specs.Tasks.{Calls, Fires}
use Rattle.rv_staff.specs.declared.work.Work.{Work}
use Rattle.rv_staff.specs.declared.work.Work.TheVariants.{Text, Device, Line, Lines}

-- It runs the text of a task once, and then it finishes. What it asked is what the text asks.
abbrev pub TextWorks : (budget : ℕ) → Porting → Porting → Type 0
TextWorks budget port after =
    ((exit : Exit) × (done : Porting) × TextRan (pass_of port) port.refused budget exit (pass_of done) done.refused
    × LeavesText done.refused (pass_of done) (pass_of after))
    × FollowsUnless after.refused budget (pass_of port) (pass_of after)

-- what another process asks by lines is performed, each line before the next is read, and then it finishes; where memory is
-- refused for that, it finishes at once
abbrev pub LinesWork : List Shape → Porting → Porting → Type 0
LinesWork shapes port after =
    ((a : At) × (b : At) × (served : Result (Unit {0}) Error) × (a.port ≡ port) × (b.port ≡ after) × ServesTask shapes a b served)
    ⊎ Quits (pass_of port) (pass_of after)

-- that, or it makes the calls of a device, or interrupts of a line, or serves another process, and then it finishes
abbrev pub Works : Work → Porting → Porting → Type 0
Works (Text budget notices) port after = TextWorks budget port after
Works (Device object operation calls) port after = (done : Porting) × Calls object operation calls port done × Quits (pass_of done) (pass_of after)
Works (Lines alloc pipes names) port after = LinesWork names port after
Works (Line raised notices) port after = (count : ℕ) × (done : Porting) × Fires count port done × Quits (pass_of done) (pass_of after)
