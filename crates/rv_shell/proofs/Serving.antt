-- What is told and written makes what a line does.
use Rattle.std.proofs.Common.{subst, sym, refl, MatchResult, ◌≡◌, ℕ, List, Option, Ok, Err, inl, inr}
use Rattle.std.specs.Prelude.{Result}
use Rattle.rv_event.specs.declared.entry.Answer.{Answer}
use Rattle.rv_host.specs.Pages.{Item}
use Rattle.rv_turn.specs.Passes.{Acted, IsWorn}
use Rattle.rv_turn.specs.declared.pass.Worn.{Worn as Spent}
use Rattle.rv_behind.specs.Acting.{Does}
use Rattle.rv_port.specs.Controls.{Told, PageFailed}
use Rattle.rv_behind.specs.Events.{by, catalogue_of}
use Rattle.rv_port.specs.Traces.{Passing}
use Rattle.rv_port.specs.declared.fault.PageFault.{PageFault}
use Rattle.rv_port.specs.declared.fault.PageFault.TheVariants as PageFaults
use Rattle.rv_behind.specs.declared.event.Ask.{Ask}
use Rattle.rv_behind.specs.declared.event.Reply.TheVariants as Gives
use Rattle.rv_shell.specs.declared.shell.Next.{Next}
use Rattle.rv_shell.specs.declared.shell.LineFault.{LineFault}
use Rattle.rv_shell.specs.declared.shell.LineFault.TheVariants.{NoMemory, Write, Worn}
use Rattle.rv_step.specs.declared.reading.StepError.{StepError}
use Rattle.rv_step.specs.declared.reading.StepError.TheVariants as Steps
use Rattle.rv_shell.specs.Orders.{IsRead}
use Rattle.rv_shell.specs.declared.order.Order.{Order}
use Rattle.rv_shell.specs.Serving.{Carries, CarriesRead, Written, Writes, RequestsOrWorn, ReadsOrWorn, Serves, answer_line, of_page}
use Rattle.rv_keep.specs.PageText.{page_text}

-- a request was told, and its answer is written
pub asks_by : (old new : Written) (v w : Passing) (ask : Ask) (answer : Answer) (result : Result Next LineFault)
    → Told v ask answer w → Writes old new (answer_line (catalogue_of w.seen) answer) result → RequestsOrWorn old new v w ask result
asks_by old new v w ask answer (Ok next) told written = record { answer = answer; told = told; written = written }
asks_by old new v w ask answer (Err (Write error)) told written = record { answer = answer; told = told; written = written }
asks_by old new v w ask answer (Err NoMemory) told written = record { answer = answer; told = told; written = written }
asks_by old new v w ask answer (Err Worn) told written = absurd written

-- the same of a request that may have found no act left
pub asks_told : (old new : Written) (v w : Passing) (ask : Ask) (answer : Result Answer Spent) (result : Result Next LineFault)
    → MatchResult answer (λ r. Told v ask r w) (λ x. IsWorn v w)
    → MatchResult answer (λ r. Writes old new (answer_line (catalogue_of w.seen) r) result) (λ x. (result ≡ Err Worn) × (new ≡ old))
    → RequestsOrWorn old new v w ask result
asks_told old new v w ask (Ok r) result told written = asks_by old new v w ask r result told written
asks_told old new v w ask (Err x) result told written =
    subst (λ (end : Result Next LineFault). RequestsOrWorn old new v w ask end) (sym written.0) (told, written.1)

-- a page was read, and its text is written
pub pages_by : (old new : Written) (v w : Passing) (from : ℕ) (page : List Item) (result : Result Next LineFault)
    → Acted by Does v (Ask.Read from) (Gives.Read page) w → Writes old new (page_text (catalogue_of w.seen) from page) result
    → ReadsOrWorn old new v w from result
pages_by old new v w from page (Ok next) told written = record { page = page; told = told; written = written }
pages_by old new v w from page (Err (Write error)) told written = record { page = page; told = told; written = written }
pages_by old new v w from page (Err NoMemory) told written = inr record { page = page; told = told; written = written }
pages_by old new v w from page (Err Worn) told written = absurd written

-- no page was read
pub page_fails : (old : Written) (v w : Passing) (from : ℕ) (fault : PageFault) → PageFailed v from fault w → ReadsOrWorn old old v w from (Err (of_page fault))
page_fails old v w from PageFaults.NoMemory failed = inl (failed, refl)
page_fails old v w from PageFaults.Worn failed = (failed, refl)

-- what was read of a line is carried out, and so the line is
pub read_serves : (old new : Written) (v w : Passing) (words : List (List ℕ)) (read : Result Order StepError) (result : Result Next LineFault)
    → IsRead words read → CarriesRead old new v w read result → Serves old new v w words result
read_serves old new v w words (Ok order) result is carries = inr (subst (λ (o : Option Order). Carries old new v w o result) (sym is.0) carries)
read_serves old new v w words (Err Steps.BadStep) result is carries = inr (subst (λ (o : Option Order). Carries old new v w o result) (sym is.0) carries)
read_serves old new v w words (Err Steps.NoMemory) result is carries = inl (carries.0, carries.1, carries.2, is.1)
