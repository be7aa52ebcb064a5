-- What a call asks that comes to the start of a body.
use Rattle.std.proofs.Common.{◌≡◌, ◌⊎◌, inl, inr, ℕ, ℤ, List, [], ◌∷◌, Bool, true, false, refl, sym, ap, ◌∙◌, subst, Some, None}
use Rattle.std.specs.Prelude.{not, ◌||◌}
use Rattle.rv_shape.specs.Shape.{Shape}
use Rattle.rv_shape.specs.Catalogue.{Target, Nowhere, OnProtected, OnSuspension, target, shares, is_function, is_entry}
use Rattle.rv_shape.specs.declared.kind.Kind.{Kind}
use Rattle.rv_shape.specs.declared.kind.Kind.TheVariants as kind
use Rattle.rv_event.specs.declared.entry.Answer.{Answer}
use Rattle.rv_event.specs.declared.entry.Answer.TheVariants as answer
use Rattle.rv_event.specs.declared.entry.Request.{Request}
use Rattle.rv_event.specs.declared.entry.Request.TheVariants as request
use Rattle.rv_code.specs.declared.expression.Callee.{Callee}
use Rattle.rv_code.specs.declared.expression.Callee.TheVariants as callee
use Rattle.rv_fits.specs.Fits.{calls_function, calls_entry, calls_procedure, callee_fits}
use Rattle.rv_exec.specs.declared.end.Asked.{Asked}
use Rattle.rv_exec.specs.declared.end.Asked.TheVariants as asked
use Rattle.rv_exec.specs.declared.end.Reply.{Reply}
use Rattle.rv_exec.specs.declared.end.Reply.TheVariants as reply
use Rattle.rv_exec.specs.Asking.{Trace, ended, asking, Along}
use Rattle.rv_exec.specs.Calls.{request_of, can_refuse, started, woken, replied, resumed, settled, asks}
use Rattle.rv_meant.specs.Explained.{on_protected}
use Rattle.rv_meant.proofs.Answered.{begins, begins_at_once, begun_starts, refused_waits, resumed_starts, waits, by_start}

no_way : {X : Type 0} → false ≡ true → X
no_way e = absurd (cc e)

-- The parts of a start

abbrev object_in : Asked → ℕ
object_in (asked.Started object operation is_function components) = object
object_in other = 0

abbrev operation_in : Asked → ℕ
operation_in (asked.Started object operation is_function components) = operation
operation_in other = 0

abbrev is_function_in : Asked → Bool
is_function_in (asked.Started object operation is_function components) = is_function
is_function_in other = false

abbrev components_in : Asked → List ℤ
components_in (asked.Started object operation is_function components) = components
components_in other = []

abbrev in_reply : Reply → Asked
in_reply (reply.Settled what) = what
in_reply reply.Waits = asked.Given []

-- a call of a protected operation, and whether it is one of a function
abbrev pub IsCallOf : Callee → (object operation : ℕ) → Bool → Type 0
IsCallOf c object operation is_function =
    ((c ≡ callee.Function object operation) × (is_function ≡ true))
    ⊎ (((c ≡ callee.Procedure object operation) × (is_function ≡ false)) ⊎ ((c ≡ callee.Entry object operation) × (is_function ≡ false)))

-- what answers tell of a start
abbrev pub StartOf : Callee → Asked → List ℤ → Type 0
StartOf c what components = IsCallOf c (object_in what) (operation_in what) (is_function_in what) × (components ≡ components_in what)

started_call : (c : Callee) (components : List ℤ) → begins_at_once (started c components) ≡ true → StartOf c (in_reply (started c components)) components
started_call (callee.Function object operation) components e = (inl (refl, refl), refl)
started_call (callee.Procedure object operation) components e = (inr (inl (refl, refl)), refl)
started_call (callee.Entry object operation) components e = (inr (inr (refl, refl)), refl)
started_call c components e = no_way e

woken_call : (c : Callee) (components : List ℤ) → begins (woken c (Some components)) ≡ true → (object : ℕ) × (operation : ℕ) × (c ≡ callee.Entry object operation) × (woken c (Some components) ≡ asked.Started object operation false components)
woken_call (callee.Entry object operation) components e = (object, operation, refl, refl)
woken_call c components e = no_way e

-- The first answer

first_start : (c : Callee) (r : Answer) → begins_at_once (replied c r) ≡ true → (s : List ℤ) × (r ≡ answer.Started s) × StartOf c (in_reply (replied c r)) s
first_start c r e =
    by_start (λ (r : Answer). begins_at_once (replied c r) ≡ true → (s : List ℤ) × (r ≡ answer.Started s) × StartOf c (in_reply (replied c r)) s)
    (λ s b. (s, refl, started_call c s b)) (λ s b. no_way b) r (begun_starts c r e) e

-- The answer to a resume, and the one before it

resumed_start : (c : Callee) (r : Answer) → begins (resumed c r) ≡ true → (s : List ℤ) × (r ≡ answer.Woken (Some s)) × (object : ℕ) × (operation : ℕ) × (c ≡ callee.Entry object operation) × (resumed c r ≡ asked.Started object operation false s)
resumed_start c r e =
    by_start
    (λ (r : Answer). begins (resumed c r) ≡ true
    → (s : List ℤ) × (r ≡ answer.Woken (Some s)) × (object : ℕ) × (operation : ℕ) × (c ≡ callee.Entry object operation) × (resumed c r ≡ asked.Started object operation false s))
    (λ s b. no_way b) (λ s b. let w = woken_call c s b in (s, refl, w.0, w.1, w.2, w.3)) r (resumed_starts c r e) e

entry_waits : (object operation : ℕ) (r : Answer) → waits (replied (callee.Entry object operation) r) ≡ true → r ≡ answer.Queued
entry_waits object operation answer.Queued e = refl
entry_waits object operation (answer.Refused rule line version) e = no_way (sym (refused_waits (can_refuse (callee.Entry object operation) rule) rule) ∙ e)
entry_waits object operation r e = no_way e

-- What a call asked that started a body

abbrev pub Called : (object operation : ℕ) → List ℤ → List ℤ → Trace → Type 0
Called object operation values components opening =
    (opening ≡ (request.Call object operation values, answer.Started components) ∷ [])
    ⊎ (opening ≡ (request.Call object operation values, answer.Queued) ∷ (request.Resume, answer.Woken (Some components)) ∷ [])

pub record IsOpening (c : Callee) (values : List ℤ) (opening : Trace) (object operation : ℕ) (is_function : Bool) (components : List ℤ) : Type 0 where
  pub call : IsCallOf c object operation is_function
  pub called : Called object operation values components opening

call_asks : (c : Callee) (object operation : ℕ) (is_function : Bool) (values : List ℤ) → IsCallOf c object operation is_function → request_of c values ≡ request.Call object operation values
call_asks c object operation is_function values (inl e) = ap (λ (d : Callee). request_of d values) e.0
call_asks c object operation is_function values (inr (inl e)) = ap (λ (d : Callee). request_of d values) e.0
call_asks c object operation is_function values (inr (inr e)) = ap (λ (d : Callee). request_of d values) e.0

opening_once : (c : Callee) (values : List ℤ) (q : Request) (r : Answer) (object operation : ℕ) (is_function : Bool) (components : List ℤ) → request_of c values ≡ q → replied c r ≡ reply.Settled (asked.Started object operation is_function components)
    → IsOpening c values ((q, r) ∷ []) object operation is_function components
opening_once c values q r object operation is_function components e is =
    let s = first_start c r (ap begins_at_once is) in
    let t : StartOf c (asked.Started object operation is_function components) s.0 = subst (λ (w : Reply). StartOf c (in_reply w) s.0) is s.2 in
    let p : q ≡ request.Call object operation values = sym e ∙ call_asks c object operation is_function values t.0 in
    let a : r ≡ answer.Started components = s.1 ∙ ap answer.Started t.1 in
    record { call = t.0; called = inl (λ i. (p i, a i) ∷ []) }

opening_twice : (c : Callee) (values : List ℤ) (q p : Request) (w r : Answer) (object operation : ℕ) (is_function : Bool) (components : List ℤ) → request_of c values ≡ q → request.Resume ≡ p → replied c w ≡ reply.Waits → resumed c r ≡ asked.Started object operation is_function components
    → IsOpening c values ((q, w) ∷ (p, r) ∷ []) object operation is_function components
opening_twice c values q p w r object operation is_function components e k is so =
    let s = resumed_start c r (ap begins so) in
    let same : asked.Started s.2 s.3 false s.0 ≡ asked.Started object operation is_function components = sym s.5 ∙ so in
    let entry : c ≡ callee.Entry object operation = s.4 ∙ (λ i. callee.Entry (object_in (same i)) (operation_in (same i))) in
    let queued : w ≡ answer.Queued = entry_waits object operation w (ap waits (subst (λ (d : Callee). replied d w ≡ reply.Waits) entry is)) in
    let a : r ≡ answer.Woken (Some components) = s.1 ∙ ap (λ (z : Asked). answer.Woken (Some (components_in z))) same in
    let call : IsCallOf c object operation is_function = inr (inr (entry, sym (ap is_function_in same))) in
    let first : q ≡ request.Call object operation values = sym e ∙ call_asks c object operation is_function values call in
    record { call = call; called = inr (λ i. (first i, queued i) ∷ (sym k i, a i) ∷ []) }

opening_resumed : (c : Callee) (values : List ℤ) (q : Request) (w : Answer) (trace : Trace) (object operation : ℕ) (is_function : Bool) (components : List ℤ) → request_of c values ≡ q → replied c w ≡ reply.Waits
    → Along (asking request.Resume (λ r. ended (resumed c r))) trace (asked.Started object operation is_function components) → IsOpening c values ((q, w) ∷ trace) object operation is_function components
opening_resumed c values q w [] object operation is_function components e is h = absurd h
opening_resumed c values q w (pair ∷ []) object operation is_function components e is h = opening_twice c values q pair.0 w pair.1 object operation is_function components e h.0 is h.1
opening_resumed c values q w (pair ∷ two ∷ more) object operation is_function components e is h = absurd h.1

opening_settled : (c : Callee) (values : List ℤ) (q : Request) (r : Answer) (how : Reply) (more : Trace) (object operation : ℕ) (is_function : Bool) (components : List ℤ) → replied c r ≡ how → request_of c values ≡ q
    → Along (settled c how) more (asked.Started object operation is_function components) → IsOpening c values ((q, r) ∷ more) object operation is_function components
opening_settled c values q r (reply.Settled other) [] object operation is_function components is e h = opening_once c values q r object operation is_function components e (is ∙ ap reply.Settled h)
opening_settled c values q r (reply.Settled other) (pair ∷ more) object operation is_function components is e h = absurd h
opening_settled c values q r reply.Waits more object operation is_function components is e h = opening_resumed c values q r more object operation is_function components e is h

pub opening_of : (c : Callee) (values : List ℤ) (opening : Trace) (object operation : ℕ) (is_function : Bool) (components : List ℤ) → Along (asks c values) opening (asked.Started object operation is_function components) → IsOpening c values opening object operation is_function components
opening_of c values [] object operation is_function components h = absurd h
opening_of c values (pair ∷ more) object operation is_function components h = opening_settled c values pair.0 pair.1 (replied c pair.1) more object operation is_function components refl h.0 h.1

-- It is a function's where the catalogue says so

function_shares : (t : Target) → calls_function t ≡ true → shares t ≡ true
function_shares (OnProtected site) e = e
function_shares Nowhere e = no_way e
function_shares (OnSuspension unit name wanted) e = no_way e

no_function : (k : Kind) → is_entry k ≡ true → is_function k ≡ false
no_function (kind.Entry guard) e = refl
no_function (kind.Function result) e = no_way e
no_function kind.Procedure e = refl
no_function (kind.Handler line) e = refl

entry_shares : (t : Target) → calls_entry t ≡ true → shares t ≡ false
entry_shares (OnProtected site) e = no_function site.operation.kind e
entry_shares Nowhere e = refl
entry_shares (OnSuspension unit name wanted) e = refl

neither : (a b : Bool) → not (a || b) ≡ true → a ≡ false
neither false b e = refl
neither true b e = no_way e

procedure_shares : (t : Target) → calls_procedure t ≡ true → shares t ≡ false
procedure_shares (OnProtected site) e = neither (is_function site.operation.kind) (is_entry site.operation.kind) e
procedure_shares Nowhere e = refl
procedure_shares (OnSuspension unit name wanted) e = refl

pub call_shares : (shapes : List Shape) (c : Callee) (object operation : ℕ) (is_function : Bool) → IsCallOf c object operation is_function → callee_fits shapes c ≡ true → shares (target shapes object operation) ≡ is_function
call_shares shapes c object operation is_function (inl e) f = function_shares (target shapes object operation) (ap (callee_fits shapes) (sym e.0) ∙ f) ∙ sym e.1
call_shares shapes c object operation is_function (inr (inl e)) f = procedure_shares (target shapes object operation) (ap (callee_fits shapes) (sym e.0) ∙ f) ∙ sym e.1
call_shares shapes c object operation is_function (inr (inr e)) f = entry_shares (target shapes object operation) (ap (callee_fits shapes) (sym e.0) ∙ f) ∙ sym e.1

-- and of a protected object

function_protected : (t : Target) → calls_function t ≡ true → on_protected t ≡ true
function_protected (OnProtected site) e = refl
function_protected Nowhere e = no_way e
function_protected (OnSuspension unit name wanted) e = no_way e

procedure_protected : (t : Target) → calls_procedure t ≡ true → on_protected t ≡ true
procedure_protected (OnProtected site) e = refl
procedure_protected Nowhere e = no_way e
procedure_protected (OnSuspension unit name wanted) e = no_way e

entry_protected : (t : Target) → calls_entry t ≡ true → on_protected t ≡ true
entry_protected (OnProtected site) e = refl
entry_protected Nowhere e = no_way e
entry_protected (OnSuspension unit name wanted) e = no_way e

pub call_protected : (shapes : List Shape) (c : Callee) (object operation : ℕ) (is_function : Bool) → IsCallOf c object operation is_function → callee_fits shapes c ≡ true → on_protected (target shapes object operation) ≡ true
call_protected shapes c object operation is_function (inl e) f = function_protected (target shapes object operation) (ap (callee_fits shapes) (sym e.0) ∙ f)
call_protected shapes c object operation is_function (inr (inl e)) f = procedure_protected (target shapes object operation) (ap (callee_fits shapes) (sym e.0) ∙ f)
call_protected shapes c object operation is_function (inr (inr e)) f = entry_protected (target shapes object operation) (ap (callee_fits shapes) (sym e.0) ∙ f)
