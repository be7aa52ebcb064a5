-- What a call asks, by what it comes to.
use Rattle.std.proofs.Common.{◌≡◌, ◌⊎◌, inl, inr, ℕ, suc, ℤ, List, [], ◌∷◌, Bool, true, false, cond, refl, sym, ap, ◌∙◌}
use Rattle.std.specs.Prelude.{Some, None, Option, is_some, ◌&&◌, int_le, pos}
use Rattle.rv_value.specs.Arithmetic.{is_zero}
use Rattle.rv_event.specs.Recorded.{recorded}
use Rattle.rv_event.specs.declared.entry.Answer.{Answer}
use Rattle.rv_event.specs.declared.entry.Answer.TheVariants as answer
use Rattle.rv_event.specs.declared.entry.Recorded.{Recorded}
use Rattle.rv_event.specs.declared.entry.Request.{Request}
use Rattle.rv_event.specs.declared.entry.Request.TheVariants as request
use Rattle.rv_event.specs.declared.entry.Rule.{Rule}
use Rattle.rv_event.specs.declared.entry.Rule.TheVariants as rule
use Rattle.rv_code.specs.declared.expression.Callee.{Callee}
use Rattle.rv_code.specs.declared.expression.Callee.TheVariants as callee
use Rattle.rv_exec.specs.declared.end.Asked.{Asked}
use Rattle.rv_exec.specs.declared.end.Asked.TheVariants as asked
use Rattle.rv_exec.specs.declared.end.Cause.TheVariants as cause
use Rattle.rv_exec.specs.declared.end.Reply.{Reply}
use Rattle.rv_exec.specs.declared.end.Reply.TheVariants as reply
use Rattle.rv_exec.specs.Asking.{Trace, ended, asking, Along}
use Rattle.rv_exec.specs.Calls.{internal, is_protected, request_of, can_refuse, refusal, stops, gives, started, queued, suspended, delayed, accepted, replied, woken, dropped, resumed, settled, asks}
use Rattle.rv_exec.specs.Stops.{is_final, is_stopped, stops_at_once}
use Rattle.rv_meant.specs.Asks.{held_after, held_behind, IsWhole, AreRecorded, IsCourse}
use Rattle.rv_meant.specs.Nested.{Strays}

no_more : {X : Type 0} → false ≡ true → X
no_more e = absurd (cc e)

-- Kinds of answers

-- an answer starts no body and ends none
abbrev pub is_plain : Answer → Bool
is_plain (answer.Started components) = false
is_plain (answer.Woken (Some components)) = false
is_plain (answer.Done next) = false
is_plain other = true

-- one starts a body
abbrev pub is_start : Answer → Bool
is_start (answer.Started components) = true
is_start (answer.Woken (Some components)) = true
is_start other = false

-- what asked comes to the start of a body
abbrev pub begins : Asked → Bool
begins (asked.Started object operation is_function components) = true
begins (asked.Given values) = false
begins (asked.Abandoned why) = false

abbrev pub begins_at_once : Reply → Bool
begins_at_once (reply.Settled what) = begins what
begins_at_once reply.Waits = false

abbrev pub waits : Reply → Bool
waits (reply.Settled what) = false
waits reply.Waits = true

plain_held : (n : ℕ) (r : Answer) → is_plain r ≡ true → held_after n r ≡ n
plain_held n (answer.Started s) e = no_more e
plain_held n (answer.Woken (Some s)) e = no_more e
plain_held n (answer.Done next) e = no_more e
plain_held n r e = refl

-- what is so of the answers that start a body is so of each that does
pub by_start : (P : Answer → Type 0) → ((s : List ℤ) → P (answer.Started s)) → ((s : List ℤ) → P (answer.Woken (Some s))) → (r : Answer) → is_start r ≡ true → P r
by_start P at_once later (answer.Started s) e = at_once s
by_start P at_once later (answer.Woken (Some s)) e = later s
by_start P at_once later r e = no_more e

start_held : (n : ℕ) (r : Answer) → is_start r ≡ true → held_after n r ≡ suc n
start_held n = by_start (λ (r : Answer). held_after n r ≡ suc n) (λ s. refl) (λ s. refl)

start_recorded : (r : Answer) → is_start r ≡ true → is_some (recorded r) ≡ true
start_recorded = by_start (λ (r : Answer). is_some (recorded r) ≡ true) (λ s. refl) (λ s. refl)

final_plain : (r : Answer) → is_final r ≡ true → is_plain r ≡ true
final_plain (answer.Started s) e = no_more e
final_plain (answer.Woken s) e = no_more e
final_plain (answer.Done next) e = no_more e
final_plain r e = refl

-- from an answer without an entry nothing goes on
unkept : (c : Callee) (r : Answer) → recorded r ≡ None → (replied c r ≡ stops true) × (resumed c r ≡ asked.Abandoned (cause.Stopped false))
unkept c answer.Halted e = (refl, refl)
unkept c answer.Full e = (refl, refl)
unkept c answer.Busy e = (refl, refl)
unkept c answer.Waiting e = (refl, refl)
unkept c answer.Misuse e = (refl, refl)
unkept c answer.Unattached e = (refl, refl)
unkept c answer.BadLine e = (refl, refl)
unkept c answer.OutOfMemory e = (refl, refl)
unkept c r e = absurd (cc e)

kept_or : (o : Option Recorded) → (o ≡ None → ⊥) → is_some o ≡ true
kept_or None f = absurd (f refl)
kept_or (Some w) f = refl

-- First answers

refused_begins : (k : Bool) (rule : Rule) → begins_at_once (cond k (reply.Settled (asked.Abandoned (cause.Raised (refusal rule)))) (stops true)) ≡ false
refused_begins true rule = refl
refused_begins false rule = refl

pub refused_waits : (k : Bool) (rule : Rule) → waits (cond k (reply.Settled (asked.Abandoned (cause.Raised (refusal rule)))) (stops true)) ≡ false
refused_waits true rule = refl
refused_waits false rule = refl

given_begins : (k : Bool) (values : List ℤ) → begins_at_once (cond k (gives values) (stops true)) ≡ false
given_begins true values = refl
given_begins false values = refl

accepted_begins : (c : Callee) (value : ℤ) → begins_at_once (accepted c value) ≡ false
accepted_begins (callee.CurrentState object) value = given_begins (int_le (pos 0) value && int_le value (pos 1)) (value ∷ [])
accepted_begins (callee.SetTrue object) value = given_begins (is_zero value) []
accepted_begins (callee.SetFalse object) value = given_begins (is_zero value) []
accepted_begins (callee.SuspendUntilTrue object) value = given_begins (is_zero value) []
accepted_begins callee.DelayUntil value = given_begins (is_zero value) []
accepted_begins c value = refl

pub started_waits : (c : Callee) (components : List ℤ) → waits (started c components) ≡ false
started_waits (callee.Function object operation) components = refl
started_waits c components = refl

-- a start that stops nothing begins a body
started_stops : (c : Callee) (components : List ℤ) → stops_at_once (started c components) ≡ false → begins_at_once (started c components) ≡ false → true ≡ false
started_stops (callee.Function object operation) components e f = f
started_stops (callee.Procedure object operation) components e f = f
started_stops (callee.Entry object operation) components e f = f
started_stops c components e f = e

queued_begins : (c : Callee) → begins_at_once (queued c) ≡ false
queued_begins (callee.Entry object operation) = refl
queued_begins c = refl

suspended_begins : (c : Callee) → begins_at_once (suspended c) ≡ false
suspended_begins (callee.SuspendUntilTrue object) = refl
suspended_begins c = refl

delayed_begins : (c : Callee) → begins_at_once (delayed c) ≡ false
delayed_begins callee.DelayUntil = refl
delayed_begins c = refl

-- only Started begins a body at once
pub begun_starts : (c : Callee) (r : Answer) → begins_at_once (replied c r) ≡ true → is_start r ≡ true
begun_starts c (answer.Started s) e = refl
begun_starts c answer.Queued e = no_more (sym (queued_begins c) ∙ e)
begun_starts c (answer.Refused rule line version) e = no_more (sym (refused_begins (can_refuse c rule) rule) ∙ e)
begun_starts c answer.Suspended e = no_more (sym (suspended_begins c) ∙ e)
begun_starts c answer.Delayed e = no_more (sym (delayed_begins c) ∙ e)
begun_starts c (answer.Accepted value) e = no_more (sym (accepted_begins c value) ∙ e)
begun_starts c r e = no_more e

-- an answer by which nothing stops has an entry
going_recorded : (c : Callee) (r : Answer) → stops_at_once (replied c r) ≡ false → is_some (recorded r) ≡ true
going_recorded c r e = kept_or (recorded r) (λ none. no_more (sym e ∙ ap stops_at_once (unkept c r none).0))

-- and is plain, where it begins no body
going_plain : (c : Callee) (r : Answer) → stops_at_once (replied c r) ≡ false → begins_at_once (replied c r) ≡ false → is_plain r ≡ true
going_plain c (answer.Started s) e f = no_more (sym (started_stops c s e f))
going_plain c (answer.Woken s) e f = no_more (sym e)
going_plain c (answer.Done next) e f = no_more (sym e)
going_plain c r e f = refl

-- Answers to resumes

woken_begins : (c : Callee) → begins (woken c None) ≡ false
woken_begins (callee.Entry object operation) = refl
woken_begins c = refl

woken_stops : (c : Callee) (components : List ℤ) → is_stopped (woken c (Some components)) ≡ false → begins (woken c (Some components)) ≡ false → true ≡ false
woken_stops (callee.Entry object operation) components e f = f
woken_stops c components e f = e

entry_dropped_begins : (object operation : ℕ) (r : Rule) → begins (dropped (callee.Entry object operation) r) ≡ false
entry_dropped_begins object operation rule.Grant = refl
entry_dropped_begins object operation other = refl

dropped_begins : (c : Callee) (r : Rule) → begins (dropped c r) ≡ false
dropped_begins (callee.Entry object operation) r = entry_dropped_begins object operation r
dropped_begins c r = refl

pub resumed_starts : (c : Callee) (r : Answer) → begins (resumed c r) ≡ true → is_start r ≡ true
resumed_starts c (answer.Woken None) e = no_more (sym (woken_begins c) ∙ e)
resumed_starts c (answer.Woken (Some s)) e = refl
resumed_starts c (answer.Refused rule line version) e = no_more (sym (dropped_begins c rule) ∙ e)
resumed_starts c (answer.Started s) e = refl
resumed_starts c r e = no_more e

resumed_recorded : (c : Callee) (r : Answer) → is_stopped (resumed c r) ≡ false → is_some (recorded r) ≡ true
resumed_recorded c r e = kept_or (recorded r) (λ none. no_more (sym e ∙ ap is_stopped (unkept c r none).1))

resumed_plain : (c : Callee) (r : Answer) → is_stopped (resumed c r) ≡ false → begins (resumed c r) ≡ false → is_plain r ≡ true
resumed_plain c (answer.Woken (Some s)) e f = no_more (sym (woken_stops c s e f))
resumed_plain c (answer.Started s) e f = no_more (sym e)
resumed_plain c (answer.Done next) e f = no_more (sym e)
resumed_plain c r e f = refl

-- Waits

waiting_plain : (c : Callee) (r : Answer) → waits (replied c r) ≡ true → is_plain r ≡ true
waiting_plain c (answer.Started s) e = no_more (sym (started_waits c s) ∙ e)
waiting_plain c (answer.Woken s) e = no_more e
waiting_plain c (answer.Done next) e = no_more e
waiting_plain c r e = refl

waiting_recorded : (c : Callee) (r : Answer) → waits (replied c r) ≡ true → is_some (recorded r) ≡ true
waiting_recorded c r e = kept_or (recorded r) (λ none. no_more (sym (ap waits (unkept c r none).0) ∙ e))

-- What a call asks

-- no request of these ends a body
abbrev pub is_end : Request → Bool
is_end (request.Complete components exit) = true
is_end other = false

abbrev pub NoEnds : Trace → Type 0
NoEnds [] = Unit {0}
NoEnds (pair ∷ more) = (is_end pair.0 ≡ false) × NoEnds more

request_no_end : (c : Callee) (values : List ℤ) → is_end (request_of c values) ≡ false
request_no_end (callee.Internal operation) values = refl
request_no_end c values = refl

-- what asks came to: to no start, all that started has ended, and each ask has an entry, or one cut it off; to a start, it is held too
abbrev pub CameTo : (Callee → Bool) → Trace → Bool → Bool → Type 0
CameTo such trace true stopped = ((n : ℕ) → held_behind n trace ≡ suc n) × AreRecorded trace
CameTo such trace false stopped = Strays such trace ⊎ (IsWhole trace × IsCourse stopped trace)

-- one ask, whose answer starts no body and stops nothing, or stops it
one_stop : (such : Callee → Bool) (c : Callee) (values : List ℤ) (q : Request) (r : Answer) (final : Bool) → is_final r ≡ final → internal c ≡ None → such c ≡ true → request_of c values ≡ q → stops_at_once (replied c r) ≡ true → CameTo such ((q, r) ∷ []) false true
one_stop such c values q r true f n m e s = inr (
  (λ held. plain_held held r (final_plain r f)),
  record { before = []; request = q; answer = r; behind = []; trace_is = refl; recorded = tt; final = f; ends = tt },
)
one_stop such c values q r false f n m e s = inl (inl (f, c, n, m, values, sym e, s))

one_ask : (such : Callee → Bool) (c : Callee) (values : List ℤ) (q : Request) (r : Answer) (begun stopped : Bool) → begins_at_once (replied c r) ≡ begun → stops_at_once (replied c r) ≡ stopped → internal c ≡ None → such c ≡ true → request_of c values ≡ q → CameTo such ((q, r) ∷ []) begun stopped
one_ask such c values q r true stopped b s n m e =
    let start : is_start r ≡ true = begun_starts c r b in
    ((λ held. start_held held r start), (start_recorded r start, tt))
one_ask such c values q r false true b s n m e = one_stop such c values q r (is_final r) refl n m e s
one_ask such c values q r false false b s n m e = inr ((λ held. plain_held held r (going_plain c r s b)), (going_recorded c r s, tt))

-- an ask that waits, and a resume
two_stops : (such : Callee → Bool) (c : Callee) (values : List ℤ) (q p : Request) (w r : Answer) (final : Bool) → is_final r ≡ final → such c ≡ true → request_of c values ≡ q → request.Resume ≡ p → replied c w ≡ reply.Waits → is_stopped (resumed c r) ≡ true → CameTo such ((q, w) ∷ (p, r) ∷ []) false true
two_stops such c values q p w r true f m e k is s = inr (
  (λ held. plain_held (held_after held w) r (final_plain r f) ∙ plain_held held w (waiting_plain c w (ap waits is))),
  record { before = (q, w) ∷ []; request = p; answer = r; behind = []; trace_is = refl; recorded = (waiting_recorded c w (ap waits is), tt); final = f; ends = tt },
)
two_stops such c values q p w r false f m e k is s = inl (inr (inl (f, c, m, values, sym e, is, sym k, s)))

two_asks : (such : Callee → Bool) (c : Callee) (values : List ℤ) (q p : Request) (w r : Answer) (begun stopped : Bool) → begins (resumed c r) ≡ begun → is_stopped (resumed c r) ≡ stopped → such c ≡ true → request_of c values ≡ q → request.Resume ≡ p → replied c w ≡ reply.Waits → CameTo such ((q, w) ∷ (p, r) ∷ []) begun stopped
two_asks such c values q p w r true stopped b s m e k is =
    let start : is_start r ≡ true = resumed_starts c r b in
    ((λ held. start_held (held_after held w) r start ∙ ap (λ n. suc n) (plain_held held w (waiting_plain c w (ap waits is)))), (waiting_recorded c w (ap waits is), (start_recorded r start, tt)))
two_asks such c values q p w r false true b s m e k is = two_stops such c values q p w r (is_final r) refl m e k is s
two_asks such c values q p w r false false b s m e k is = inr (
  (λ held. plain_held (held_after held w) r (resumed_plain c r s b) ∙ plain_held held w (waiting_plain c w (ap waits is))),
  (waiting_recorded c w (ap waits is), (resumed_recorded c r s, tt)),
)

came_resumed : (such : Callee → Bool) (c : Callee) (values : List ℤ) (q : Request) (w : Answer) (trace : Trace) (what : Asked) → such c ≡ true → request_of c values ≡ q → replied c w ≡ reply.Waits
    → Along (asking request.Resume (λ r. ended (resumed c r))) trace what → CameTo such ((q, w) ∷ trace) (begins what) (is_stopped what)
came_resumed such c values q w [] what m e is h = absurd h
came_resumed such c values q w (pair ∷ []) what m e is h =
    two_asks such c values q pair.0 w pair.1 (begins what) (is_stopped what) (ap begins h.1) (ap is_stopped h.1) m e h.0 is
came_resumed such c values q w (pair ∷ two ∷ more) what m e is h = absurd h.1

came_settled : (such : Callee → Bool) (c : Callee) (values : List ℤ) (q : Request) (r : Answer) (how : Reply) (more : Trace) (what : Asked) → internal c ≡ None → such c ≡ true → replied c r ≡ how → request_of c values ≡ q
    → Along (settled c how) more what → CameTo such ((q, r) ∷ more) (begins what) (is_stopped what)
came_settled such c values q r (reply.Settled other) [] what n m is e h =
    one_ask such c values q r (begins what) (is_stopped what) (ap begins_at_once is ∙ ap begins h) (ap stops_at_once is ∙ ap is_stopped h) n m e
came_settled such c values q r (reply.Settled other) (pair ∷ more) what n m is e h = absurd h
came_settled such c values q r reply.Waits more what n m is e h = came_resumed such c values q r more what m e is h

pub asks_come : (such : Callee → Bool) (c : Callee) (values : List ℤ) (trace : Trace) (what : Asked) → internal c ≡ None → such c ≡ true → Along (asks c values) trace what → CameTo such trace (begins what) (is_stopped what)
asks_come such c values [] what n m h = absurd h
asks_come such c values (pair ∷ more) what n m h = came_settled such c values pair.0 pair.1 (replied c pair.1) more what n m refl h.0 h.1

-- none of them ends a body
resume_no_end : (c : Callee) (trace : Trace) (what : Asked) → Along (asking request.Resume (λ r. ended (resumed c r))) trace what → NoEnds trace
resume_no_end c [] what h = absurd h
resume_no_end c (pair ∷ []) what h = (ap is_end (sym h.0), tt)
resume_no_end c (pair ∷ two ∷ more) what h = absurd h.1

settled_no_end : (c : Callee) (how : Reply) (more : Trace) (what : Asked) → Along (settled c how) more what → NoEnds more
settled_no_end c (reply.Settled other) [] what h = tt
settled_no_end c (reply.Settled other) (pair ∷ more) what h = absurd h
settled_no_end c reply.Waits more what h = resume_no_end c more what h

pub asks_no_end : (c : Callee) (values : List ℤ) (trace : Trace) (what : Asked) → Along (asks c values) trace what → NoEnds trace
asks_no_end c values [] what h = absurd h
asks_no_end c values (pair ∷ more) what h = (ap is_end (sym h.0) ∙ request_no_end c values, settled_no_end c (replied c pair.1) more what h.1)

-- Only a call of a protected operation comes to a start

started_protected : (c : Callee) (components : List ℤ) → begins_at_once (started c components) ≡ true → is_protected c ≡ true
started_protected (callee.Function object operation) components e = refl
started_protected (callee.Procedure object operation) components e = refl
started_protected (callee.Entry object operation) components e = refl
started_protected c components e = no_more e

begun_protected : (c : Callee) (r : Answer) → begins_at_once (replied c r) ≡ true → is_protected c ≡ true
begun_protected c r e =
    by_start (λ (r : Answer). begins_at_once (replied c r) ≡ true → is_protected c ≡ true) (started_protected c) (λ s b. no_more b) r (begun_starts c r e) e

woken_protected : (c : Callee) (components : List ℤ) → begins (woken c (Some components)) ≡ true → is_protected c ≡ true
woken_protected (callee.Entry object operation) components e = refl
woken_protected c components e = no_more e

resumed_protected : (c : Callee) (r : Answer) → begins (resumed c r) ≡ true → is_protected c ≡ true
resumed_protected c r e =
    by_start (λ (r : Answer). begins (resumed c r) ≡ true → is_protected c ≡ true) (λ s b. no_more b) (woken_protected c) r (resumed_starts c r e) e

resume_protected : (c : Callee) (trace : Trace) (what : Asked) → Along (asking request.Resume (λ r. ended (resumed c r))) trace what → begins what ≡ true → is_protected c ≡ true
resume_protected c [] what h b = absurd h
resume_protected c (pair ∷ []) what h b = resumed_protected c pair.1 (ap begins h.1 ∙ b)
resume_protected c (pair ∷ two ∷ more) what h b = absurd h.1

settled_protected : (c : Callee) (r : Answer) (how : Reply) (more : Trace) (what : Asked) → replied c r ≡ how → Along (settled c how) more what → begins what ≡ true → is_protected c ≡ true
settled_protected c r (reply.Settled other) [] what is h b = begun_protected c r (ap begins_at_once is ∙ (ap begins h ∙ b))
settled_protected c r (reply.Settled other) (pair ∷ more) what is h b = absurd h
settled_protected c r reply.Waits more what is h b = resume_protected c more what h b

pub asks_protected : (c : Callee) (values : List ℤ) (trace : Trace) (what : Asked) → Along (asks c values) trace what → begins what ≡ true → is_protected c ≡ true
asks_protected c values [] what h b = absurd h
asks_protected c values (pair ∷ more) what h b = settled_protected c pair.1 (replied c pair.1) more what refl h.1 b
