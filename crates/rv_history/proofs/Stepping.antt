-- Commands lead from legal histories to legal ones.
use Rattle.std.proofs.Common.{◌≡◌, ℕ, List, [], ◌∷◌, ◌++◌, Some, None, Option, true, false, refl, inl, inr, ap, subst, sym, ◌∙◌}
use Rattle.std.specs.Prelude.{Bool, is_some, if◌then◌else◌, nat_lt, length}
use Rattle.std.proofs.lemmas.Bool.{false≢true}
use Rattle.rv_access.specs.Words.{Words}
use Rattle.rv_shape.specs.Shape.{Shape}
use Rattle.rv_shape.specs.Fits.{shape_fits}
use Rattle.rv_access.specs.declared.change.Change.{Change}
use Rattle.rv_event.specs.Past.{halted}
use Rattle.rv_event.specs.Recorded.{recorded}
use Rattle.rv_event.specs.declared.entry.Answer.{Answer}
use Rattle.rv_event.specs.declared.entry.Answer.TheVariants.{BadLine}
use Rattle.rv_event.specs.declared.entry.Recorded.{Recorded}
use Rattle.rv_event.specs.declared.entry.Request.{Request}
use Rattle.rv_event.specs.declared.entry.Entry.TheVariants.{Load, ListChange}
use Rattle.rv_history.specs.declared.command.Command.{Command}
use Rattle.rv_history.specs.declared.command.Command.TheVariants as Commands
use Rattle.rv_history.specs.History.{History, force}
use Rattle.rv_access.specs.Changes.{changed}
use Rattle.rv_history.specs.Due.{out, gate, within, nothing_more}
use Rattle.rv_history.specs.Legal.{Legal, after_load, entered, line_limit, listed, out_list, out_load}
use Rattle.rv_history.specs.Owed.{has_room}
use Rattle.rv_history.specs.Steps.{IsAnswer, MayLackMemory, Steps, after_change, after_command, answers_to, due_change, due_command, history_after}

pub never : (b : Bool) (answer : Answer) → answer ≡ gate true b BadLine → is_some (recorded answer) ≡ true → ⊥
never true answer e some = false≢true (ap (λ (a : Answer). is_some (recorded a)) (sym e) ∙ some)
never false answer e some = false≢true (ap (λ (a : Answer). is_some (recorded a)) (sym e) ∙ some)

-- The due answer keeps it legal

accepted : (fits shut room : Bool) → is_some (recorded (gate fits shut (within room nothing_more))) ≡ true → gate fits shut (within room nothing_more) ≡ nothing_more
accepted true true room some = absurd (false≢true some)
accepted true false true some = refl
accepted true false false some = absurd (false≢true some)
accepted false shut room some = absurd (false≢true some)

legal_request : (o : Option Recorded) (h : History) (actor : ℕ) (request : Request) → recorded (out h actor request) ≡ o → Legal h → Legal (entered h actor request o)
legal_request None h actor request e legal = legal
legal_request (Some word) h actor request e legal = (legal, e)

legal_load : (b : Bool) (h : History) (shape : Shape) → is_some (recorded (out_load h shape)) ≡ b → Legal h → Legal (if b then record h { past = Load ∷ h.past; shapes = h.shapes ++ shape ∷ [] } else h)
legal_load false h shape e legal = legal
legal_load true h shape e legal =
    (h.shapes, shape, refl, legal, accepted (shape_fits h.shapes shape) (halted h.past) (has_room h.limits.capacity (h.shapes ++ shape ∷ []) (Load ∷ h.past)) e)

accepted_list : (shut long room : Bool) → let answer = gate true shut (if long then BadLine else within room nothing_more) in is_some (recorded answer) ≡ true → answer ≡ nothing_more
accepted_list true long room some = absurd (false≢true some)
accepted_list false true room some = absurd (false≢true some)
accepted_list false false true some = refl
accepted_list false false false some = absurd (false≢true some)

legal_list : (o : Option (List Words)) (b : Bool) (h : History) → is_some (recorded (out_list h o)) ≡ b → Legal h → Legal (if b then listed h o else h)
legal_list o false h e legal = legal
legal_list None true h e legal = absurd (never (halted h.past) (out_list h None) refl e)
legal_list (Some list) true h e legal =
    (h.lists, list, refl, legal, accepted_list (halted h.past) (nat_lt line_limit (length list)) (has_room h.limits.capacity h.shapes (ListChange ∷ h.past)) e)

pub legal_after : (c : Command) (h : History) → Legal h → Legal (after_command h c (due_command h c))
legal_after (Commands.Ask actor request) h legal = legal_request (recorded (out h actor request)) h actor request refl legal
legal_after (Commands.Load shape) h legal = legal_load (is_some (recorded (out_load h shape))) h shape refl legal
legal_after (Commands.Change change) h legal = legal_list (changed (force h) change) (is_some (recorded (out_list h (changed (force h) change)))) h refl legal

pub is_due : (c : Command) (h : History) → IsAnswer h c (due_command h c)
is_due (Commands.Ask actor request) h = refl
is_due (Commands.Load shape) h = inl refl
is_due (Commands.Change change) h = inl refl

-- So does any answer that a command may get

legal_request_by : (h : History) (actor : ℕ) (request : Request) (answer : Answer) → answer ≡ out h actor request → Legal h → Legal (after_command h (Commands.Ask actor request) answer)
legal_request_by h actor request answer e legal = subst (λ (a : Answer). Legal (after_command h (Commands.Ask actor request) a)) (sym e) (legal_after (Commands.Ask actor request) h legal)

legal_load_by : (h : History) (shape : Shape) (answer : Answer) → MayLackMemory (out_load h shape) answer → Legal h → Legal (after_load h shape answer)
legal_load_by h shape answer (inl e) legal = subst (λ (a : Answer). Legal (after_load h shape a)) (sym e) (legal_after (Commands.Load shape) h legal)
legal_load_by h shape answer (inr e) legal = subst (λ (a : Answer). Legal (after_load h shape a)) (sym e.0) legal

legal_change_by : (h : History) (change : Change) (answer : Answer) → MayLackMemory (due_change h change) answer → Legal h → Legal (after_change h change answer)
legal_change_by h change answer (inl e) legal =
    subst (λ (a : Answer). Legal (after_change h change a)) (sym e) (legal_list (changed (force h) change) (is_some (recorded (out_list h (changed (force h) change)))) h refl legal)
legal_change_by h change answer (inr e) legal = subst (λ (a : Answer). Legal (after_change h change a)) (sym e.0) legal

pub legal_by : (c : Command) (h : History) (answer : Answer) → IsAnswer h c answer → Legal h → Legal (after_command h c answer)
legal_by (Commands.Ask actor request) h answer e legal = legal_request_by h actor request answer e legal
legal_by (Commands.Load shape) h answer e legal = legal_load_by h shape answer e legal
legal_by (Commands.Change change) h answer e legal = legal_change_by h change answer e legal

pub steps_legal : (h k : History) (commands : List Command) (answers : List Answer) → Legal h → Steps h commands answers k → Legal k
steps_legal h k [] [] legal steps = subst Legal (sym steps) legal
steps_legal h k (command ∷ commands) (answer ∷ answers) legal steps = steps_legal (after_command h command answer) k commands answers (legal_by command h answer steps.0 legal) steps.1
steps_legal h k [] (answer ∷ answers) legal steps = absurd steps
steps_legal h k (command ∷ commands) [] legal steps = absurd steps

pub due_steps : (h : History) (commands : List Command) → Steps h commands (answers_to h commands) (history_after h commands)
due_steps h [] = refl
due_steps h (command ∷ commands) = (is_due command h, due_steps (after_command h command (due_command h command)) commands)
