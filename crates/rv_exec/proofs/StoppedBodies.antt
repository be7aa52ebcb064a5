-- Bodies and tasks stop only by an answer.
use Rattle.std.proofs.Common.{◌≡◌, ◌⊎◌, inl, inr, ℕ, ℤ, List, [], ◌∷◌, Bool, true, false, refl, sym, ap, ◌∙◌, subst, None, Ok, Err}
use Rattle.rv_event.specs.declared.entry.Answer.{Answer}
use Rattle.rv_event.specs.declared.entry.Answer.TheVariants as answer
use Rattle.rv_event.specs.declared.entry.Exception.TheVariants.{ProgramError}
use Rattle.rv_event.specs.declared.entry.Exit.{Exit}
use Rattle.rv_event.specs.declared.entry.Exit.TheVariants as exit
use Rattle.rv_event.specs.declared.entry.Request.{Request}
use Rattle.rv_event.specs.declared.entry.Request.TheVariants as request
use Rattle.rv_code.specs.declared.expression.Callee.{Callee}
use Rattle.rv_exec.specs.declared.end.Asked.{Asked}
use Rattle.rv_exec.specs.declared.end.Asked.TheVariants as asked
use Rattle.rv_exec.specs.declared.end.Cause.TheVariants as cause
use Rattle.rv_exec.specs.declared.end.Reply.{Reply}
use Rattle.rv_exec.specs.declared.end.Reply.TheVariants as reply
use Rattle.rv_exec.specs.Asking.{Trace, Asking, ended, asking, Along}
use Rattle.rv_exec.specs.Blocks.{exits}
use Rattle.rv_exec.specs.Bodies.{task_of}
use Rattle.rv_exec.specs.Calls.{Outcome, internal, request_of, replied, resumed, settled, asks, is_past, reached, exit_of, completed, is_stuck, end_of, completes}
use Rattle.rv_exec.specs.Stops.{is_final, is_stopped, stops_at_once, IsUnfitWoken, EndsNot, Stops, unwinds, StopsIn, BodiesStopBy, TasksStopBy}
use Rattle.rv_exec.specs.Tasks.{quits}
use Rattle.rv_exec.proofs.Keeping.{ongoing, halted, stuck, is_stop, how_result, how_got, Sound, Silent, Follows, sound_end, sound_if}
use Rattle.rv_exec.proofs.KeptBodies.{task_found}
use Rattle.rv_exec.proofs.KeptRuns.{KeptOutside, how_asked, how_ended, how_exit, body_kept, task_kept}
use Rattle.rv_exec.proofs.Runs.{ends_asked}
use Rattle.rv_exec.proofs.Stopping.{stopped_result, no_stop, stopping, quiet_end}

-- Requests

final_or : {X : Type 0} (k : Bool) (r : Answer) → is_final r ≡ k → (is_final r ≡ false → X) → (is_final r ≡ true) ⊎ X
final_or true r e f = inl e
final_or false r e f = inr (f e)

stops_first : (such : Callee → Bool) (c : Callee) (values : List ℤ) (q : Request) (r : Answer) → internal c ≡ None → such c ≡ true → request_of c values ≡ q → stops_at_once (replied c r) ≡ true → Stops such q r
stops_first such c values q r n m e s = final_or (is_final r) r refl (λ f. inr (f, c, n, m, values, sym e, s))

woken_stops : (such : Callee → Bool) (k : Bool) (first : Request × Answer) (q : Request) (r : Answer) → is_final r ≡ k → (is_final r ≡ false → IsUnfitWoken such first.0 first.1 q r) → StopsIn such (first ∷ (q, r) ∷ [])
woken_stops such true first q r e f = inr (inr (inl (inl e, tt)))
woken_stops such false first q r e f = inr (inl (f e, tt))

stops_resumed : (such : Callee → Bool) (c : Callee) (values : List ℤ) (first : Request × Answer) (trace : Trace) (what : Asked) → such c ≡ true → request_of c values ≡ first.0 → replied c first.1 ≡ reply.Waits
    → Along (asking request.Resume (λ r. ended (resumed c r))) trace what → is_stopped what ≡ true → StopsIn such (first ∷ trace)
stops_resumed such c values first [] what m e w h s = absurd h
stops_resumed such c values first (pair ∷ []) what m e w h s =
    woken_stops such (is_final pair.1) first pair.0 pair.1 refl (λ f. (f, c, m, values, sym e, w, sym h.0, ap is_stopped h.1 ∙ s))
stops_resumed such c values first (pair ∷ two ∷ more) what m e w h s = absurd h.1

stops_settled : (such : Callee → Bool) (c : Callee) (values : List ℤ) (q : Request) (r : Answer) (how : Reply) (more : Trace) (what : Asked) → internal c ≡ None → such c ≡ true → replied c r ≡ how → request_of c values ≡ q
    → Along (settled c how) more what → is_stopped what ≡ true → StopsIn such ((q, r) ∷ more)
stops_settled such c values q r (reply.Settled other) [] what n m is e h s = inl (stops_first such c values q r n m e (ap stops_at_once is ∙ (ap is_stopped h ∙ s)), tt)
stops_settled such c values q r (reply.Settled other) (pair ∷ more) what n m is e h s = absurd h
stops_settled such c values q r reply.Waits more what n m is e h s = stops_resumed such c values (q, r) more what m e is h s

asked_stops : (what : Asked) → is_stop (how_asked what) ≡ true → is_stopped what ≡ true
asked_stops (asked.Given values) s = no_stop s
asked_stops (asked.Started object operation is_function components) s = no_stop s
asked_stops (asked.Abandoned (cause.Raised exception)) s = no_stop s
asked_stops (asked.Abandoned cause.Overrun) s = no_stop s
asked_stops (asked.Abandoned (cause.Stopped is_idle)) s = refl

result_stops : (outcome : Outcome) → is_stop (how_result outcome) ≡ true → stopped_result outcome ≡ true
result_stops (Ok values) s = no_stop s
result_stops (Err (cause.Raised exception)) s = no_stop s
result_stops (Err cause.Overrun) s = no_stop s
result_stops (Err (cause.Stopped is_idle)) s = refl

asks_sound : (such : Callee → Bool) (c : Callee) (values : List ℤ) → internal c ≡ None → such c ≡ true → Sound (stopping such) how_asked (asks c values)
asks_sound such c values n m [] what h s = absurd h
asks_sound such c values n m (pair ∷ more) what h s = stops_settled such c values pair.0 pair.1 (replied c pair.1) more what n m refl h.0 h.1 (asked_stops what s)

reached_sound : (such : Callee → Bool) (held : ℕ) (c : Callee) (values : List ℤ) → internal c ≡ None → such c ≡ true → Sound (stopping such) how_asked (reached held c values)
unfolding reached
reached_sound such held c values n m = sound_if (stopping such) (is_past held c) how_asked (ended (asked.Abandoned (cause.Raised ProgramError))) (asks c values)
    (sound_end (stopping such) how_asked (asked.Abandoned (cause.Raised ProgramError)) refl) (asks_sound such c values n m)

-- The ends of bodies

not_done : (q : Request) (components : List ℤ) (x : Exit) (r : Answer) (outcome : Outcome) → request.Complete components x ≡ q → stopped_result outcome ≡ false → stopped_result (completed outcome r) ≡ true → EndsNot (request.Complete components x) r
not_done q components x (answer.Done next) (Ok values) e f s = no_stop s
not_done q components x (answer.Done next) (Err (cause.Raised exception)) e f s = no_stop s
not_done q components x (answer.Done next) (Err cause.Overrun) e f s = no_stop s
not_done q components x (answer.Done next) (Err (cause.Stopped is_idle)) e f s = no_stop (sym f)
not_done q components x r outcome e f s = tt

-- what a function's end, and another body's, gives back
abbrev ends_with : Bool → List ℤ → List ℤ
ends_with true components = []
ends_with false components = components

end_is : (is_function : Bool) (outcome : Outcome) (components : List ℤ) → end_of is_function outcome components ≡ request.Complete (ends_with is_function components) (exit_of outcome)
end_is true outcome components = refl
end_is false outcome components = refl

unstuck : (outcome : Outcome) → stopped_result outcome ≡ false → is_stuck outcome ≡ false
unstuck (Ok values) f = refl
unstuck (Err (cause.Raised exception)) f = refl
unstuck (Err cause.Overrun) f = refl
unstuck (Err (cause.Stopped is_idle)) f = no_stop (sym f)

ending_sound : (such : Callee → Bool) (is_function : Bool) (outcome : Outcome) (components : List ℤ) → stopped_result outcome ≡ false → Sound (stopping such) how_result (asking (end_of is_function outcome components) (λ r. ended (completed outcome r)))
ending_sound such is_function outcome components f [] last h s = absurd h
ending_sound such is_function outcome components f (pair ∷ []) last h s =
    let e : request.Complete (ends_with is_function components) (exit_of outcome) ≡ pair.0 = sym (end_is is_function outcome components) ∙ h.0 in
    inl (inr (inl (subst (λ (q : Request). EndsNot q pair.1) e (not_done pair.0 (ends_with is_function components) (exit_of outcome) pair.1 outcome e f (ap stopped_result h.1 ∙ result_stops last s)))), tt)
ending_sound such is_function outcome components f (pair ∷ two ∷ more) last h s = absurd h.1

completes_sound : (such : Callee → Bool) (is_function : Bool) (outcome : Outcome) (components : List ℤ) (steps : ℕ) → stopped_result outcome ≡ false → Sound (stopping such) how_result (completes is_function (outcome, (components, steps)))
completes_sound such is_function outcome components steps f =
    subst (λ (w : Asking Outcome). Sound (stopping such) how_result w) (sym (ends_asked (end_of is_function outcome components) outcome (unstuck outcome f))) (ending_sound such is_function outcome components f)

completes_quiet : (such : Callee → Bool) (is_function : Bool) (components : List ℤ) (steps : ℕ) → Silent (stopping such) halted how_result (completes is_function (Err (cause.Stopped true), (components, steps)))
completes_quiet such is_function components steps [] last h = absurd h
completes_quiet such is_function components steps (pair ∷ []) last h =
    (sym (ap unwinds (sym (end_is is_function (Err (cause.Stopped true)) components) ∙ h.0)), tt)
completes_quiet such is_function components steps (pair ∷ two ∷ more) last h = absurd h.1

follows_completed : (such : Callee → Bool) (is_function : Bool) (got : Outcome × (List ℤ × ℕ)) → Follows (stopping such) (how_got got) how_result (completes is_function got)
follows_completed such is_function (Ok values, (components, steps)) = completes_sound such is_function (Ok values) components steps refl
follows_completed such is_function (Err (cause.Raised exception), (components, steps)) = completes_sound such is_function (Err (cause.Raised exception)) components steps refl
follows_completed such is_function (Err cause.Overrun, (components, steps)) = completes_sound such is_function (Err cause.Overrun) components steps refl
follows_completed such is_function (Err (cause.Stopped true), (components, steps)) = completes_quiet such is_function components steps
follows_completed such is_function (Err (cause.Stopped false), (components, steps)) = quiet_end such stuck how_result (Err (cause.Stopped false))

-- Bodies, and tasks

follows_exits : (such : Callee → Bool) (got : Outcome × (List ℤ × ℕ)) → Follows (stopping such) (how_got got) how_ended (exits got)
follows_exits such (Ok values, (components, steps)) = sound_end (stopping such) how_ended (exit.Return values, components) refl
follows_exits such (Err (cause.Raised exception), (components, steps)) = sound_end (stopping such) how_ended (exit.Raise exception, components) refl
follows_exits such (Err cause.Overrun, (components, steps)) = sound_end (stopping such) how_ended (exit.Overrun, components) refl
follows_exits such (Err (cause.Stopped true), (components, steps)) = quiet_end such halted how_ended (exit.Stopped, components)
follows_exits such (Err (cause.Stopped false), (components, steps)) = quiet_end such stuck how_ended (exit.Stopped, components)

quit_sound : (such : Callee → Bool) (x : Exit) → how_exit x ≡ ongoing → Sound (stopping such) how_exit (asking request.Quit (λ r. ended x))
quit_sound such x e [] last h s = absurd h
quit_sound such x e (pair ∷ []) last h s = no_stop (sym (ap is_stop e) ∙ (ap (λ (y : Exit). is_stop (how_exit y)) h.1 ∙ s))
quit_sound such x e (pair ∷ two ∷ more) last h s = absurd h.1

quit_quiet : (such : Callee → Bool) (x : Exit) → Silent (stopping such) halted how_exit (asking request.Quit (λ r. ended x))
quit_quiet such x [] last h = absurd h
quit_quiet such x (pair ∷ []) last h = (sym (ap unwinds h.0), tt)
quit_quiet such x (pair ∷ two ∷ more) last h = absurd h.1

follows_quits : (such : Callee → Bool) (outcome : Outcome) → Follows (stopping such) (how_result outcome) how_exit (quits outcome)
follows_quits such (Ok values) = quit_sound such (exit.Return values) refl
follows_quits such (Err (cause.Raised exception)) = quit_sound such (exit.Raise exception) refl
follows_quits such (Err cause.Overrun) = quit_sound such exit.Overrun refl
follows_quits such (Err (cause.Stopped true)) = quit_quiet such exit.Stopped
follows_quits such (Err (cause.Stopped false)) = quiet_end such stuck how_exit exit.Stopped

outside : (such : Callee → Bool) → KeptOutside (stopping such)
outside such = record {
  asks = λ held c values n m. reached_sound such held c values n m;
  ends = λ is_function got. follows_completed such is_function got;
  leaves = λ got. follows_exits such got;
  stops = λ outcome. follows_quits such outcome;
}

pub bodies_stop_by : BodiesStopBy
bodies_stop_by such bodies held object operation values components left trace k h = body_kept (stopping such) (outside such) bodies k held object operation values components trace (exit.Stopped, left) h refl

pub tasks_stop_by : TasksStopBy
tasks_stop_by such bodies actor requests trace k h = task_kept (stopping such) (outside such) bodies k (task_of bodies actor) requests (task_found such bodies actor k) trace exit.Stopped h refl
