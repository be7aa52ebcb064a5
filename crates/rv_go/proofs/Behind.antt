-- Where a machine stands by the answers that it went on by.
use Rattle.std.proofs.Common.{◌≡◌, refl, sym, ap, subst, ◌∙◌, ℕ, List, [], ◌∷◌, ◌++◌, Bool, true, false, cond, Option, Some, None, append_assoc, append-nil}
use Rattle.rv_event.specs.declared.entry.Answer.{Answer}
use Rattle.rv_event.specs.declared.entry.Request.{Request}
use Rattle.rv_exec.specs.Asking.{Asking, ended, asking, and_then, stands as stands_still}
use Rattle.rv_exec.specs.Next.{next_of, settling}
use Rattle.rv_exec.specs.Tasks.{task_run, line_run}
use Rattle.rv_flat.specs.declared.unit.FlatUnit.{FlatUnit}
use Rattle.rv_flat.specs.FlatUnits.{flat_view}
use Rattle.rv_frames.specs.Frames.{Now, quit, out}
use Rattle.rv_go.specs.declared.run.Text.TheVariants as texts
use Rattle.rv_go.specs.Runs.{asked_by, IsBehind}
use Rattle.rv_machine.specs.declared.machine.Machine.{Machine}
use Rattle.rv_machine.specs.declared.next.Final.{Final}
use Rattle.rv_machine.specs.Machines.{stands, answered, AsksNow, EndsNow}

-- what is asked doesn't hang on what its end is made into
next_made : {A B : Type 0} (w : Asking A) (make : A → B) (more : List Answer) → next_of (and_then w (λ a. ended (make a))) more ≡ next_of w more
next_made (ended a) make more = refl
next_made (asking request go) make [] = refl
next_made (asking request go) make (answer ∷ more) = next_made (go answer) make more

-- a machine that begins
pub task_begins : (u : FlatUnit) (m : Machine) (actor budget : ℕ)
    → stands u m ≡ and_then (task_run (flat_view u) actor budget) (quit ended) → IsBehind u (asked_by (flat_view u) budget (texts.Task actor)) [] m
task_begins u m actor budget is = record {
  same = λ more. ap (λ (w : Asking Now). next_of w more) is ∙ next_made (task_run (flat_view u) actor budget) _ more;
}

pub line_begins : (u : FlatUnit) (m : Machine) (object operation budget : ℕ)
    → stands u m ≡ and_then (line_run (flat_view u) object operation) (out ended) → IsBehind u (asked_by (flat_view u) budget (texts.Handler object operation)) [] m
line_begins u m object operation budget is = record {
  same = λ more. ap (λ (w : Asking Now). next_of w more) is ∙ next_made (line_run (flat_view u) object operation) _ more;
}

-- a machine that moved stands there still
pub stays : (u : FlatUnit) (old new : Machine) (asks : List Answer → Option Request) (given : List Answer)
    → stands u new ≡ stands u old → IsBehind u asks given old → IsBehind u asks given new
stays u old new asks given same behind = record { same = λ more. ap (λ (w : Asking Now). next_of w more) same ∙ behind.same more }

asked_now : (w : Asking Now) (request : Request) → AsksNow w request → next_of w [] ≡ Some request
asked_now w request is = ap (λ (x : Asking Now). next_of x []) is.1

ended_now : (w : Asking Now) (how : Final) (more : List Answer) → EndsNow w how → next_of w more ≡ None
ended_now w how more is = ap (λ (x : Asking Now). next_of x more) is.1

-- it asks what the text does
pub asks_so : (u : FlatUnit) (m : Machine) (request : Request) (asks : List Answer → Option Request) (given : List Answer)
    → AsksNow (stands u m) request → IsBehind u asks given m → Some request ≡ asks given
asks_so u m request asks given is behind = sym (asked_now (stands u m) request is) ∙ (behind.same [] ∙ ap asks (append-nil given))

pub ends_so : (u : FlatUnit) (m : Machine) (how : Final) (asks : List Answer → Option Request) (given : List Answer)
    → EndsNow (stands u m) how → IsBehind u asks given m → None ≡ asks given
ends_so u m how asks given is behind = sym (ended_now (stands u m) how [] is) ∙ (behind.same [] ∙ ap asks (append-nil given))

-- it goes on by an answer
next_answered : (w : Asking Now) (answer : Answer) (more : List Answer) → next_of (answered w answer) more ≡ next_of w (answer ∷ more)
next_answered (ended a) answer more = refl
next_answered (asking request go) answer more = refl

pub goes_on : (u : FlatUnit) (old new : Machine) (answer : Answer) (asks : List Answer → Option Request) (given : List Answer)
    → stands u new ≡ answered (stands u old) answer → IsBehind u asks given old → IsBehind u asks (given ++ answer ∷ []) new
goes_on u old new answer asks given is behind = record {
  same = λ more.
      ap (λ (w : Asking Now). next_of w more) is
      ∙ (next_answered (stands u old) answer more ∙ (behind.same (answer ∷ more) ∙ ap asks (sym (append_assoc given (answer ∷ []) more))));
}

pub over : (u : FlatUnit) (m : Machine) (how : Final) (answer : Answer) (asks : List Answer → Option Request) (given : List Answer)
    → EndsNow (stands u m) how → IsBehind u asks given m → IsBehind u asks (given ++ answer ∷ []) m
over u m how answer asks given is behind = record {
  same = λ more.
      ended_now (stands u m) how more is
      ∙ (sym (ended_now (stands u m) how (answer ∷ more) is) ∙ (behind.same (answer ∷ more) ∙ ap asks (sym (append_assoc given (answer ∷ []) more))));
}

-- an answer that settles its request is one more, and another is none
settling_by : Bool → Answer → List Answer → List Answer
settling_by still answer before = cond still before (before ++ answer ∷ [])

one_behind : (b still : Bool) (first answer : Answer) (before more : List Answer)
    → more ≡ settling_by still answer before → cond b more (first ∷ more) ≡ settling_by still answer (cond b before (first ∷ before))
unfolding settling_by
one_behind true still first answer before more is = is
one_behind false true first answer before more is = ap (λ (x : List Answer). first ∷ x) is
one_behind false false first answer before more is = ap (λ (x : List Answer). first ∷ x) is

settling_behind : (given : List Answer) (answer : Answer) → settling (given ++ answer ∷ []) ≡ settling_by (stands_still answer) answer (settling given)
unfolding settling_by
settling_behind [] answer = refl
settling_behind (first ∷ given) answer = one_behind (stands_still first) (stands_still answer) first answer (settling given) (settling (given ++ answer ∷ [])) (settling_behind given answer)

pub settles : (u : FlatUnit) (m : Machine) (answer : Answer) (asks : List Answer → Option Request) (given : List Answer)
    → stands_still answer ≡ false → IsBehind u asks (settling given ++ answer ∷ []) m → IsBehind u asks (settling (given ++ answer ∷ [])) m
unfolding settling_by
settles u m answer asks given not behind =
    subst (λ (x : List Answer). IsBehind u asks x m) (sym (settling_behind given answer ∙ ap (λ (b : Bool). settling_by b answer (settling given)) not)) behind

pub settles_not : (u : FlatUnit) (m : Machine) (answer : Answer) (asks : List Answer → Option Request) (given : List Answer)
    → stands_still answer ≡ true → IsBehind u asks (settling given) m → IsBehind u asks (settling (given ++ answer ∷ [])) m
unfolding settling_by
settles_not u m answer asks given still behind =
    subst (λ (x : List Answer). IsBehind u asks x m) (sym (settling_behind given answer ∙ ap (λ (b : Bool). settling_by b answer (settling given)) still)) behind
