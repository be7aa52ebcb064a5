-- What is asked of another object, and what comes of it.
use Rattle.std.proofs.Common.{◌≡◌, ℕ, zero, suc, ◌-◌, ◌≤◌, ◌<◌, ℤ, pos, List, [], ◌∷◌, length, Bool, true, false, cond, not, ◌||◌, Option, Some, None, refl, sym, ap, ◌∙◌, arith}
use Rattle.std.specs.Prelude.{◌&&◌, nat_lt, int_le, slice_index_or}
use Rattle.std.proofs.lemmas.Bool.Decides.{nat_tests}
use Rattle.rv_value.specs.Arithmetic.{is_zero}
use Rattle.rv_event.specs.declared.entry.Answer.{Answer}
use Rattle.rv_event.specs.declared.entry.Answer.TheVariants as answer
use Rattle.rv_event.specs.declared.entry.Exception.{Exception}
use Rattle.rv_event.specs.declared.entry.Exception.TheVariants.{ProgramError}
use Rattle.rv_event.specs.declared.entry.Request.TheVariants as request
use Rattle.rv_event.specs.declared.entry.Rule.TheVariants as rule
use Rattle.rv_shape.specs.declared.kind.Kind.{Kind}
use Rattle.rv_shape.specs.declared.kind.Kind.TheVariants.{Function, Procedure, Entry as EntryKind, Handler as HandlerKind}
use Rattle.rv_shape.specs.declared.object.Object.{Object}
use Rattle.rv_shape.specs.declared.object.Object.TheVariants.{Protected, Suspension}
use Rattle.rv_shape.specs.Catalogue.{OperationNumber, Site, Target, Nowhere, OnProtected, OnSuspension, UnitObject, at_object, at_unit_object, place, target}
use Rattle.rv_shape.specs.Kinds.{holds, is_function, is_entry}
use Rattle.rv_shape.specs.Objects.{OperationShape}
use Rattle.rv_shape.specs.Shape.{Shape}
use Rattle.rv_code.specs.declared.expression.Callee.{Callee}
use Rattle.rv_code.specs.declared.expression.Callee.TheVariants as callee
use Rattle.rv_fits.specs.Fits.{calls_function, calls_procedure, calls_entry, suspends, callee_fits}
use Rattle.rv_fits.specs.Fits as fitting
use Rattle.rv_fits.proofs.Both.{first_of_both, both_hold}
use Rattle.rv_history.specs.Fitting.{all_fit, ranges_in, call_fits, is_time}
use Rattle.rv_ranged.specs.Ranged.{time_parameter, of_target}
use Rattle.rv_exec.specs.declared.end.Asked.{Asked}
use Rattle.rv_exec.specs.declared.end.Asked.TheVariants as asked
use Rattle.rv_exec.specs.declared.end.Cause.TheVariants as cause
use Rattle.rv_exec.specs.declared.end.Reply.TheVariants as reply
use Rattle.rv_exec.specs.Asking.{ended}
use Rattle.rv_exec.specs.Calls.{is_protected, request_of, refusal, stops, gives, can_refuse, replied, resumed, settled, asks, reached}
use Rattle.rv_asks.specs.Asks.{are_of_object, is_good, free, calls_from, standing_after, next_after, may_ask, Asks, Standing}
use Rattle.rv_asks.proofs.Values.{component_ranges}
use Rattle.rv_asks.proofs.Trees.{Left}
use Rattle.rv_asks.proofs.Passed.{SuitsValues, wanted}

abbrev pub spot : ℕ → ℕ → OperationNumber
spot object operation = record { object = object; operation = operation }

-- Callees

-- a call of a protected operation that takes these values, and whether it is a function's
pub record Calls (shapes : List Shape) (object operation : ℕ) (is_a : Bool) (values : List ℤ) : Type 0 where
  pub site : Site
  pub is : target shapes object operation ≡ OnProtected site
  pub kind : is_function site.operation.kind ≡ is_a
  pub takes : all_fit (ranges_in site.operation.parameters) values ≡ true

abbrev pub CalleeSuits : List Shape → ℕ → Callee → List ℤ → Type 0
CalleeSuits shapes holding (callee.Function object operation) values = Calls shapes object operation true values
CalleeSuits shapes holding (callee.Procedure object operation) values = Calls shapes object operation false values
CalleeSuits shapes holding (callee.Entry object operation) values = Calls shapes object operation false values
CalleeSuits shapes holding (callee.SetTrue object) values = call_fits holding [] (target shapes object 1) ≡ true
CalleeSuits shapes holding (callee.SetFalse object) values = call_fits holding [] (target shapes object 2) ≡ true
CalleeSuits shapes holding (callee.CurrentState object) values = call_fits holding [] (target shapes object 3) ≡ true
CalleeSuits shapes holding (callee.SuspendUntilTrue object) values = call_fits holding [] (target shapes object 4) ≡ true
CalleeSuits shapes holding callee.DelayUntil values = is_time (slice_index_or values 0 (pos 0)) ≡ true
CalleeSuits shapes holding other values = Unit {0}

no_function : (b c : Bool) → not (b || c) ≡ true → b ≡ false
no_function true c e = absurd (cc e)
no_function false c e = refl

entry_no_function : (kind : Kind) → is_entry kind ≡ true → is_function kind ≡ false
entry_no_function (Function range) e = absurd (cc e)
entry_no_function Procedure e = refl
entry_no_function (EntryKind barrier) e = refl
entry_no_function (HandlerKind line) e = refl

calls_a_function : (shapes : List Shape) (object operation : ℕ) (values : List ℤ) (t : Target) → target shapes object operation ≡ t → calls_function t ≡ true → SuitsValues (of_target t) values → Calls shapes object operation true values
calls_a_function shapes object operation values Nowhere is e suits = absurd (cc e)
calls_a_function shapes object operation values (OnProtected site) is e suits = record { site = site; is = is; kind = e; takes = suits }
calls_a_function shapes object operation values (OnSuspension unit name deed) is e suits = absurd (cc e)

calls_a_procedure : (shapes : List Shape) (object operation : ℕ) (values : List ℤ) (t : Target) → target shapes object operation ≡ t → calls_procedure t ≡ true → SuitsValues (of_target t) values → Calls shapes object operation false values
calls_a_procedure shapes object operation values Nowhere is e suits = absurd (cc e)
calls_a_procedure shapes object operation values (OnProtected site) is e suits = record { site = site; is = is; kind = no_function (is_function site.operation.kind) (is_entry site.operation.kind) e; takes = suits }
calls_a_procedure shapes object operation values (OnSuspension unit name deed) is e suits = absurd (cc e)

calls_an_entry : (shapes : List Shape) (object operation : ℕ) (values : List ℤ) (t : Target) → target shapes object operation ≡ t → calls_entry t ≡ true → SuitsValues (of_target t) values → Calls shapes object operation false values
calls_an_entry shapes object operation values Nowhere is e suits = absurd (cc e)
calls_an_entry shapes object operation values (OnProtected site) is e suits = record { site = site; is = is; kind = entry_no_function site.operation.kind e; takes = suits }
calls_an_entry shapes object operation values (OnSuspension unit name deed) is e suits = absurd (cc e)

-- a suspension object has operations of these numbers, which take nothing

module _ (holding : ℕ) where
  of_one : (unit : List ℕ) (object : Object) → suspends object ≡ true → call_fits holding [] (at_object 1 unit object) ≡ true
  of_one unit (Protected object) e = absurd (cc e)
  of_one unit (Suspension object) e = refl

  of_two : (unit : List ℕ) (object : Object) → suspends object ≡ true → call_fits holding [] (at_object 2 unit object) ≡ true
  of_two unit (Protected object) e = absurd (cc e)
  of_two unit (Suspension object) e = refl

  of_three : (unit : List ℕ) (object : Object) → suspends object ≡ true → call_fits holding [] (at_object 3 unit object) ≡ true
  of_three unit (Protected object) e = absurd (cc e)
  of_three unit (Suspension object) e = refl

  of_four : (unit : List ℕ) (object : Object) → suspends object ≡ true → call_fits holding [] (at_object 4 unit object) ≡ true
  of_four unit (Protected object) e = absurd (cc e)
  of_four unit (Suspension object) e = refl

  suspension_at : (n : ℕ) → ((unit : List ℕ) (object : Object) → suspends object ≡ true → call_fits holding [] (at_object n unit object) ≡ true)
      → (at : Option UnitObject) → fitting.is_suspension at ≡ true → call_fits holding [] (at_unit_object n at) ≡ true
  suspension_at n f None e = absurd (cc e)
  suspension_at n f (Some at) e = f at.unit at.object e

is_a_time : (values : List ℤ) → all_fit (ranges_in (time_parameter ∷ [])) values ≡ true → is_time (slice_index_or values 0 (pos 0)) ≡ true
is_a_time [] e = absurd (cc e)
is_a_time (v ∷ vs) e = first_of_both (holds time_parameter.range v) (all_fit [] vs) e

pub callee_suits : (shapes : List Shape) (own : List OperationShape) (holding : ℕ) (c : Callee) (values : List ℤ) → callee_fits shapes c ≡ true → SuitsValues (wanted shapes own c) values → CalleeSuits shapes holding c values
callee_suits shapes own holding (callee.Internal operation) values e suits = tt
callee_suits shapes own holding (callee.OwnEntry operation) values e suits = tt
callee_suits shapes own holding (callee.Function object operation) values e suits = calls_a_function shapes object operation values (target shapes object operation) refl e suits
callee_suits shapes own holding (callee.Procedure object operation) values e suits = calls_a_procedure shapes object operation values (target shapes object operation) refl e suits
callee_suits shapes own holding (callee.Entry object operation) values e suits = calls_an_entry shapes object operation values (target shapes object operation) refl e suits
callee_suits shapes own holding (callee.SetTrue object) values e suits = suspension_at holding 1 (of_one holding) (place shapes object) e
callee_suits shapes own holding (callee.SetFalse object) values e suits = suspension_at holding 2 (of_two holding) (place shapes object) e
callee_suits shapes own holding (callee.CurrentState object) values e suits = suspension_at holding 3 (of_three holding) (place shapes object) e
callee_suits shapes own holding (callee.SuspendUntilTrue object) values e suits = suspension_at holding 4 (of_four holding) (place shapes object) e
callee_suits shapes own holding callee.DelayUntil values e suits = is_a_time values suits
callee_suits shapes own holding callee.Clock values e suits = tt

-- Answers

-- a body starts of what was called with these values, on its object's scalars
pub record StartsBody (shapes : List Shape) (values : List ℤ) (object operation : ℕ) (is_a : Bool) (scalars : List ℤ) : Type 0 where
  pub called : Calls shapes object operation is_a values
  pub brings : all_fit (component_ranges called.site.object.components) scalars ≡ true

-- it is in one body more, and doesn't wait
abbrev pub deeper : OperationNumber → Standing → Standing
deeper started here = free here.is_line (started ∷ here.inside)

abbrev pub AskedEnds : List Shape → Standing → ℕ → List ℤ → Standing → Asked → Type 0
AskedEnds shapes here left values now (asked.Given given) = now ≡ here
AskedEnds shapes here left values now (asked.Abandoned why) = Left here now why
AskedEnds shapes here left values now (asked.Started object operation is_a scalars) =
    (now ≡ deeper (spot object operation) here) × StartsBody shapes values object operation is_a scalars × (0 < left)

module _ (shapes : List Shape) (is_line : Bool) (inside : List OperationNumber) (calls : calls_from is_line inside ≡ true) (left : ℕ) (values : List ℤ) where
  abbrev here : Standing
  here = free is_line inside

  -- it waits for the answer to a resume
  abbrev waiting : Standing
  waiting = record { is_line = is_line; inside = inside; waits = true }

  abbrev Ends : Standing → Asked → Type 0
  Ends now what = AskedEnds shapes here left values now what

  starts : (object operation : ℕ) (is_a : Bool) (scalars : List ℤ) → Calls shapes object operation is_a values → are_of_object scalars (target shapes object operation) ≡ true → StartsBody shapes values object operation is_a scalars
  starts object operation is_a scalars c good = record { called = c; brings = sym (ap (λ (t : Target). are_of_object scalars t) c.is) ∙ good }

  started_asks : (c : Callee) (next : OperationNumber) (scalars : List ℤ) → CalleeSuits shapes (length inside) c values → (is_protected c ≡ true → 0 < left)
      → is_good shapes next (request_of c values) (answer.Started scalars) ≡ true
      → Asks shapes Ends (next_after next (request_of c values) (answer.Started scalars)) (standing_after next here (request_of c values) (answer.Started scalars)) (settled c (replied c (answer.Started scalars)))
  started_asks (callee.Function object operation) next scalars suits room good = (refl, starts object operation true scalars suits good, room refl)
  started_asks (callee.Procedure object operation) next scalars suits room good = (refl, starts object operation false scalars suits good, room refl)
  started_asks (callee.Entry object operation) next scalars suits room good = (refl, starts object operation false scalars suits good, room refl)
  started_asks c next scalars suits room good = tt

  -- Resumes

  entry_resumed : (object operation : ℕ) (r : Answer) → Calls shapes object operation false values → 0 < left → is_good shapes (spot object operation) request.Resume r ≡ true
      → Ends (standing_after (spot object operation) waiting request.Resume r) (resumed (callee.Entry object operation) r)
  entry_resumed object operation (answer.Woken (Some scalars)) suits room good = (refl, starts object operation false scalars suits good, room)
  entry_resumed object operation (answer.Woken None) suits room good = tt
  entry_resumed object operation (answer.Refused rule.Grant line version) suits room good = refl
  entry_resumed object operation (answer.Refused other line version) suits room good = tt
  entry_resumed object operation r suits room good = tt

  suspend_resumed : (object : ℕ) (next : OperationNumber) (r : Answer) → Ends (standing_after next waiting request.Resume r) (resumed (callee.SuspendUntilTrue object) r)
  suspend_resumed object next (answer.Woken (Some scalars)) = tt
  suspend_resumed object next (answer.Woken None) = refl
  suspend_resumed object next (answer.Refused rule line version) = tt
  suspend_resumed object next r = tt

  delay_resumed : (next : OperationNumber) (r : Answer) → Ends (standing_after next waiting request.Resume r) (resumed callee.DelayUntil r)
  delay_resumed next (answer.Woken (Some scalars)) = tt
  delay_resumed next (answer.Woken None) = refl
  delay_resumed next (answer.Refused rule line version) = tt
  delay_resumed next r = tt

  -- First answers

  queued_asks : (c : Callee) (next : OperationNumber) → CalleeSuits shapes (length inside) c values → (is_protected c ≡ true → 0 < left)
      → Asks shapes Ends (next_after next (request_of c values) answer.Queued) (standing_after next here (request_of c values) answer.Queued) (settled c (replied c answer.Queued))
  queued_asks (callee.Entry object operation) next suits room = (refl, λ r good. entry_resumed object operation r suits (room refl) good)
  queued_asks c next suits room = tt

  suspended_asks : (c : Callee) (next : OperationNumber)
      → Asks shapes Ends (next_after next (request_of c values) answer.Suspended) (standing_after next here (request_of c values) answer.Suspended) (settled c (replied c answer.Suspended))
  suspended_asks (callee.SuspendUntilTrue object) next = (refl, λ r good. suspend_resumed object next r)
  suspended_asks c next = tt

  delayed_asks : (c : Callee) (next : OperationNumber)
      → Asks shapes Ends (next_after next (request_of c values) answer.Delayed) (standing_after next here (request_of c values) answer.Delayed) (settled c (replied c answer.Delayed))
  delayed_asks callee.DelayUntil next = (refl, λ r good. delay_resumed next r)
  delayed_asks c next = tt

  refused_asks : (c : Callee) (next : OperationNumber) (k : Bool) (exception : Exception) → Asks shapes Ends next here (settled c (cond k (reply.Settled (asked.Abandoned (cause.Raised exception))) (stops true)))
  refused_asks c next true exception = refl
  refused_asks c next false exception = refl

  given_or_not : (c : Callee) (next : OperationNumber) (k : Bool) (given : List ℤ) → Asks shapes Ends next here (settled c (cond k (gives given) (stops true)))
  given_or_not c next true given = refl
  given_or_not c next false given = refl

  accepted_asks : (c : Callee) (next : OperationNumber) (value : ℤ)
      → Asks shapes Ends next here (settled c (replied c (answer.Accepted value)))
  accepted_asks callee.Clock next value = refl
  accepted_asks (callee.CurrentState object) next value = given_or_not (callee.CurrentState object) next (int_le (pos 0) value && int_le value (pos 1)) (value ∷ [])
  accepted_asks (callee.SetTrue object) next value = given_or_not (callee.SetTrue object) next (is_zero value) []
  accepted_asks (callee.SetFalse object) next value = given_or_not (callee.SetFalse object) next (is_zero value) []
  accepted_asks (callee.SuspendUntilTrue object) next value = given_or_not (callee.SuspendUntilTrue object) next (is_zero value) []
  accepted_asks callee.DelayUntil next value = given_or_not callee.DelayUntil next (is_zero value) []
  accepted_asks c next value = refl

  replied_asks : (c : Callee) (next : OperationNumber) (r : Answer) → CalleeSuits shapes (length inside) c values → (is_protected c ≡ true → 0 < left) → is_good shapes next (request_of c values) r ≡ true
      → Asks shapes Ends (next_after next (request_of c values) r) (standing_after next here (request_of c values) r) (settled c (replied c r))
  replied_asks c next (answer.Started scalars) suits room good = started_asks c next scalars suits room good
  replied_asks c next answer.Queued suits room good = queued_asks c next suits room
  replied_asks c next (answer.Refused rule line version) suits room good = refused_asks c next (can_refuse c rule) (refusal rule)
  replied_asks c next answer.Suspended suits room good = suspended_asks c next
  replied_asks c next answer.Delayed suits room good = delayed_asks c next
  replied_asks c next (answer.Accepted value) suits room good = accepted_asks c next value
  replied_asks c next (answer.Done after) suits room good = left_not c where
    left_not : (d : Callee) → standing_after next here (request_of d values) (answer.Done after) ≡ here
    left_not (callee.Internal operation) = refl
    left_not d = refl
  replied_asks c next (answer.Woken None) suits room good = refl
  replied_asks c next (answer.Woken (Some scalars)) suits room good = woken_not c where
    woken_not : (d : Callee) → standing_after next here (request_of d values) (answer.Woken (Some scalars)) ≡ here
    woken_not (callee.Internal operation) = refl
    woken_not d = refl
  replied_asks c next r suits room good = refl

  -- Requests

  -- where it may call, what fits is asked
  may_where : (fits : Bool) → fits ≡ true → (calls_from is_line inside && fits) ≡ true
  may_where fits f = both_hold (calls_from is_line inside) fits calls f

  protected_may : (object operation : ℕ) (is_a : Bool) → Calls shapes object operation is_a values → length inside < 16 → may_ask shapes here (request.Call object operation values) ≡ true
  protected_may object operation is_a c few =
      may_where (call_fits (length inside) values (target shapes object operation))
      (ap (λ (t : Target). call_fits (length inside) values t) c.is ∙ both_hold (all_fit (ranges_in c.site.operation.parameters) values) (nat_lt (length inside) 16) c.takes (few_held (length inside) few))
    where
      few_held : (n : ℕ) → n < 16 → nat_lt n 16 ≡ true
      few_held n less = grind (arith, nat_tests)

  callee_may : (c : Callee) → CalleeSuits shapes (length inside) c values → (is_protected c ≡ true → length inside < 16) → may_ask shapes here (request_of c values) ≡ true
  callee_may (callee.Internal operation) suits few = calls
  callee_may (callee.OwnEntry operation) suits few = calls
  callee_may (callee.Function object operation) suits few = protected_may object operation true suits (few refl)
  callee_may (callee.Procedure object operation) suits few = protected_may object operation false suits (few refl)
  callee_may (callee.Entry object operation) suits few = protected_may object operation false suits (few refl)
  callee_may (callee.SetTrue object) suits few = may_where (call_fits (length inside) [] (target shapes object 1)) suits
  callee_may (callee.SetFalse object) suits few = may_where (call_fits (length inside) [] (target shapes object 2)) suits
  callee_may (callee.CurrentState object) suits few = may_where (call_fits (length inside) [] (target shapes object 3)) suits
  callee_may (callee.SuspendUntilTrue object) suits few = may_where (call_fits (length inside) [] (target shapes object 4)) suits
  callee_may callee.DelayUntil suits few = may_where (is_time (slice_index_or values 0 (pos 0))) suits
  callee_may callee.Clock suits few = calls

  asks_what_fits : (c : Callee) (next : OperationNumber) → CalleeSuits shapes (length inside) c values → (is_protected c ≡ true → 0 < left) → (is_protected c ≡ true → length inside < 16) → Asks shapes Ends next here (asks c values)
  asks_what_fits c next suits room few = (callee_may c suits few, λ r good. replied_asks c next r suits room good)

none_left : {X : Type 0} (k : Bool) → k ≡ false → k ≡ true → X
none_left true e f = absurd (cc e)
none_left false e f = absurd (cc f)

-- where an actor may hold so many more objects
pub reached_asks : (shapes : List Shape) (is_line : Bool) (inside : List OperationNumber) (left : ℕ) (values : List ℤ) (c : Callee) (next : OperationNumber) → calls_from is_line inside ≡ true → left ≤ 16 - length inside → CalleeSuits shapes (length inside) c values
    → Asks shapes (AskedEnds shapes (free is_line inside) left values) next (free is_line inside) (reached left c values)
unfolding reached
reached_asks shapes is_line inside zero values c next calls few suits = by_past (is_protected c) refl where
  by_past : (k : Bool) → is_protected c ≡ k → Asks shapes (AskedEnds shapes (free is_line inside) zero values) next (free is_line inside) (cond k (ended (asked.Abandoned (cause.Raised ProgramError))) (asks c values))
  by_past true is = refl
  by_past false is = asks_what_fits shapes is_line inside calls zero values c next suits (λ e. none_left (is_protected c) is e) (λ e. none_left (is_protected c) is e)
reached_asks shapes is_line inside (suc left) values c next calls few suits = asks_what_fits shapes is_line inside calls (suc left) values c next suits (λ e. omega arith) (λ e. omega (arith, few))
