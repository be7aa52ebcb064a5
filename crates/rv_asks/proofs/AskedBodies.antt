-- What bodies ask.
use Rattle.std.proofs.Common.{◌≡◌, ℕ, zero, suc, ℤ, pos, List, [], ◌∷◌, Bool, true, false, cond, Option, Some, None, Err, refl, replicate, length}
use Rattle.std.specs.Prelude.{◌&&◌, nat_le}
use Rattle.rv_event.specs.declared.entry.Exception.{Exception}
use Rattle.rv_event.specs.declared.entry.Exception.TheVariants.{ProgramError}
use Rattle.rv_shape.specs.declared.kind.Kind.{Kind}
use Rattle.rv_shape.specs.declared.kind.Kind.TheVariants.{Function, Procedure, Entry as EntryKind, Handler as HandlerKind}
use Rattle.rv_shape.specs.declared.kind.Parameter.{Parameter}
use Rattle.rv_shape.specs.declared.kind.Range.{Range}
use Rattle.rv_shape.specs.Catalogue.{OperationNumber, numbered, target}
use Rattle.rv_shape.specs.Kinds.{holds}
use Rattle.rv_shape.specs.Objects.{OperationShape, ProtectedShape}
use Rattle.rv_shape.specs.Shape.{Shape}
use Rattle.rv_code.specs.declared.expression.Callee.{Callee}
use Rattle.rv_code.specs.Bodies.{Declaration, Handler, Body, UnitBodies}
use Rattle.rv_code.specs.Statements.{Statements}
use Rattle.rv_fits.specs.Calls.{such_in}
use Rattle.rv_fits.specs.Fits.{callee_fits}
use Rattle.rv_fits.proofs.Both.{first_of_both, second_of_both, both_hold}
use Rattle.rv_history.specs.Fitting.{all_fit, ranges_out, results}
use Rattle.rv_ranged.specs.Ranged.{Stand, of_operation, of_target, parameters_fit, kind_fits, result_of, stand_of, heads}
use Rattle.rv_exec.specs.declared.activation.Activation.{Activation}
use Rattle.rv_exec.specs.declared.end.Cause.TheVariants as cause
use Rattle.rv_exec.specs.declared.end.End.{End}
use Rattle.rv_exec.specs.declared.end.End.TheVariants as end
use Rattle.rv_exec.specs.Asking.{Asking, and_then}
use Rattle.rv_exec.specs.Activations.{assigned, bound, opened, given_back}
use Rattle.rv_exec.specs.Blocks.{elaborated, in_handler, handling, handled, block, function_outcome, procedure_outcome, closed, body_meaning, inner_at}
use Rattle.rv_exec.specs.Bodies.{operation_of}
use Rattle.rv_exec.specs.Calls.{Outcome, internal}
use Rattle.rv_exec.specs.Choices.{named, handler_of}
use Rattle.rv_exec.specs.Expressions.{value}
use Rattle.rv_exec.specs.Statements.{go_on, meanings}
use Rattle.rv_exec.specs.World.{World}
use Rattle.rv_asks.specs.Asks.{Asks, Standing}
use Rattle.rv_asks.proofs.Values.{component_ranges}
use Rattle.rv_asks.proofs.Trees.{IsKept, EndLeft, RunEnds, asks_then, asks_here, asks_run, asks_next, run_goes}
use Rattle.rv_asks.proofs.Suited.{StatementsSuit, DeclarationsSuit, HandlersSuit, BodySuits}
use Rattle.rv_asks.proofs.Passed.{GivesSo, SuitsValues, four, wanted}
use Rattle.rv_asks.proofs.AskedValues.{OutcomeLeft, ValuesIn, OutcomeIn, InnerEnds, near, AskingWorld, value_asks}
use Rattle.rv_asks.proofs.AskedStatements.{assigned_ends, statements_ask}
use Rattle.rv_asks.proofs.Bound.{given_back_fits, bound_kept}

-- Blocks

module _ (shapes : List Shape) (s : Stand) (here : Standing) (w : World) (k : AskingWorld shapes s.operations s.components here w) where
  elaborated_asks : (ds : List Declaration) (next : OperationNumber) (a : Activation) → DeclarationsSuit shapes (near shapes w) s ds → IsKept s a → Asks shapes (RunEnds s here) next here (elaborated w ds a)
  unfolding elaborated
  elaborated_asks [] next a m kept = (refl, kept)
  elaborated_asks (d ∷ more) next a m kept =
      asks_run shapes s here (GivesSo d.initial) next (value w d.initial a) (λ v b. go_on (elaborated w more) (assigned d.target v b)) (value_asks shapes s here w k d.initial next a m.1 kept)
      (λ later v b g still. run_goes shapes s here (elaborated w more) (λ last c then_kept. elaborated_asks more last c m.2 then_kept) later here (assigned d.target v b) (assigned_ends s here d.target v b m.0 still))

  -- a handler's statements run in a world of the same calls
  same_calls : (exception : Exception) → AskingWorld shapes s.operations s.components here (in_handler exception w)
  same_calls exception = record { inner = k.inner; outer = k.outer; home = k.home }

  abbrev FoundSuits : Option Statements → Type 0
  FoundSuits None = Unit {0}
  FoundSuits (Some ss) = StatementsSuit shapes (near shapes w) s ss

  found_either : (t : Bool) (ss : Statements) (o : Option Statements) → StatementsSuit shapes (near shapes w) s ss → FoundSuits o → FoundSuits (cond t (Some ss) o)
  found_either true ss o f g = f
  found_either false ss o f g = g

  handler_found : (handlers : List Handler) (exception : Exception) → HandlersSuit shapes (near shapes w) s handlers → FoundSuits (handler_of handlers exception)
  handler_found [] exception m = tt
  handler_found (h ∷ hs) exception m = found_either (named h.choices exception) h.statements (handler_of hs exception) m.0 (handler_found hs exception m.1)

  handling_asks : (exception : Exception) (o : Option Statements) (e : End) (a : Activation) (later : OperationNumber) (now : Standing) → FoundSuits o → now ≡ here → RunEnds s here now (e, a)
      → Asks shapes (RunEnds s here) later now (handling w exception o (e, a))
  handling_asks exception None e a later now m is f = f
  handling_asks exception (Some ss) e a later now m is f =
      asks_here shapes (RunEnds s here) later here now (meanings (in_handler exception w) ss a) is (statements_ask shapes s here (in_handler exception w) (same_calls exception) ss later a m f.1)

  handled_asks : (handlers : List Handler) → HandlersSuit shapes (near shapes w) s handlers → (later : OperationNumber) (now : Standing) (ran : End × Activation) → RunEnds s here now ran → Asks shapes (RunEnds s here) later now (handled w handlers ran)
  handled_asks handlers m later now (end.Next, a) f = f
  handled_asks handlers m later now (end.Exit, a) f = f
  handled_asks handlers m later now (end.Return v, a) f = f
  handled_asks handlers m later now (end.Abandoned (cause.Raised exception), a) f =
      handling_asks exception (handler_of handlers exception) (end.Abandoned (cause.Raised exception)) a later now (handler_found handlers exception m) f.0 f
  handled_asks handlers m later now (end.Abandoned cause.Overrun, a) f = f
  handled_asks handlers m later now (end.Abandoned (cause.Stopped is_idle), a) f = f

  pub block_asks : (body : Body) (next : OperationNumber) (a : Activation) → BodySuits shapes (near shapes w) s body → IsKept s a → Asks shapes (RunEnds s here) next here (block w body a)
  unfolding block
  block_asks body next a m kept =
      asks_next shapes s here next (elaborated w body.declarations a) (λ b. and_then (meanings w body.statements b) (handled w body.handlers)) (elaborated_asks body.declarations next a m.declarations kept)
      (λ later b still. asks_then shapes (RunEnds s here) (RunEnds s here) later here (meanings w body.statements b) (handled w body.handlers) (statements_ask shapes s here w k body.statements later b m.statements still)
      (handled_asks body.handlers m.handlers))

-- Ends

pub outcome_left : (here now : Standing) (result : Option Range) (is_function : Bool) (e : End) (values : List ℤ) → EndLeft result here now e → OutcomeLeft here now (cond is_function (function_outcome e) (procedure_outcome e values))
outcome_left here now result true end.Next values f = f
outcome_left here now result true end.Exit values f = f
outcome_left here now result true (end.Return None) values f = f.0
outcome_left here now result true (end.Return (Some v)) values f = f.0
outcome_left here now result true (end.Abandoned why) values f = f
outcome_left here now result false end.Next values f = f
outcome_left here now result false end.Exit values f = f
outcome_left here now result false (end.Return v) values f = f.0
outcome_left here now result false (end.Abandoned why) values f = f

function_in : (here now : Standing) (range : Range) (e : End) → EndLeft (Some range) here now e → ValuesIn (range ∷ []) (function_outcome e)
function_in here now range end.Next f = tt
function_in here now range end.Exit f = tt
function_in here now range (end.Return None) f = tt
function_in here now range (end.Return (Some v)) f = both_hold (holds range v) true f.1 refl
function_in here now range (end.Abandoned why) f = tt

procedure_in : (ranges : List Range) (e : End) (values : List ℤ) → all_fit ranges values ≡ true → ValuesIn ranges (procedure_outcome e values)
procedure_in ranges end.Next values f = f
procedure_in ranges end.Exit values f = f
procedure_in ranges (end.Return v) values f = f
procedure_in ranges (end.Abandoned why) values f = tt

outcome_in : (here now : Standing) (kind : Kind) (ps : List Parameter) (is_function : Bool) (e : End) (values : List ℤ) → kind_fits is_function kind ≡ true → EndLeft (result_of kind) here now e → all_fit (ranges_out ps) values ≡ true
    → ValuesIn (results kind ps) (cond is_function (function_outcome e) (procedure_outcome e values))
outcome_in here now (Function range) ps true e values m f g = function_in here now range e f
outcome_in here now (Function range) ps false e values m f g = absurd (cc m)
outcome_in here now Procedure ps true e values m f g = absurd (cc m)
outcome_in here now Procedure ps false e values m f g = procedure_in (ranges_out ps) e values g
outcome_in here now (EntryKind barrier) ps true e values m f g = absurd (cc m)
outcome_in here now (EntryKind barrier) ps false e values m f g = procedure_in (ranges_out ps) e values g
outcome_in here now (HandlerKind line) ps true e values m f g = absurd (cc m)
outcome_in here now (HandlerKind line) ps false e values m f g = procedure_in (ranges_out ps) e values g

-- Bodies of operations

-- a body is one of an operation, if there is one
abbrev pub BodyOf : List Shape → ℕ → ProtectedShape → Option Body → Option OperationShape → Type 0
BodyOf shapes number object None operation = Unit {0}
BodyOf shapes number object (Some body) None = ⊥
BodyOf shapes number object (Some body) (Some operation) = (heads operation body ≡ true) × BodySuits shapes (such_in (callee_fits shapes) number) (stand_of object operation) body

no_outcome : (operation : Option OperationShape) → OutcomeIn operation (Err (cause.Raised ProgramError))
no_outcome None = tt
no_outcome (Some operation) = tt

no_overrun : (operation : Option OperationShape) → OutcomeIn operation (Err cause.Overrun)
no_overrun None = tt
no_overrun (Some operation) = tt

module _ (shapes : List Shape) (object : ProtectedShape) (here : Standing) where
  closed_asks : (operation : OperationShape) (body : Body) → heads operation body ≡ true → (later : OperationNumber) (now : Standing) (ran : End × Activation) → RunEnds (stand_of object operation) here now ran
      → Asks shapes (InnerEnds object.components (Some operation) here) later now (closed body ran)
  closed_asks operation body m later now (e, a) f =
      let values = given_back body.parameters 0 a.slots [] in
      let sides = second_of_both (kind_fits body.is_function operation.kind) (nat_le (length operation.parameters) 4 && parameters_fit body.parameters operation.parameters) m in
      let few = four (length operation.parameters) (first_of_both (nat_le (length operation.parameters) 4) (parameters_fit body.parameters operation.parameters) sides) in (
        outcome_left here now (result_of operation.kind) body.is_function e values f.0,
        f.1.1,
        outcome_in here now operation.kind operation.parameters body.is_function e values
            (first_of_both (kind_fits body.is_function operation.kind) (nat_le (length operation.parameters) 4 && parameters_fit body.parameters operation.parameters) m) f.0
            (given_back_fits body.parameters operation.parameters a.slots (second_of_both (nat_le (length operation.parameters) 4) (parameters_fit body.parameters operation.parameters) sides) f.1.0 few),
      )

  body_asks : (w : World) → AskingWorld shapes object.operations object.components here w → (operation : Option OperationShape) (o : Option Body) → BodyOf shapes w.object object o operation
      → (next : OperationNumber) (values scalars : List ℤ) (steps : ℕ) → SuitsValues (of_operation operation) values → all_fit (component_ranges object.components) scalars ≡ true
      → Asks shapes (InnerEnds object.components operation here) next here (body_meaning w o values scalars steps)
  unfolding body_meaning
  body_asks w k operation None m next values scalars steps suits fit = (refl, fit, no_outcome operation)
  body_asks w k None (Some body) m next values scalars steps suits fit = absurd m
  body_asks w k (Some operation) (Some body) m next values scalars steps suits fit =
      let sides = second_of_both (kind_fits body.is_function operation.kind) (nat_le (length operation.parameters) 4 && parameters_fit body.parameters operation.parameters) m.0 in
      let few = four (length operation.parameters) (first_of_both (nat_le (length operation.parameters) 4) (parameters_fit body.parameters operation.parameters) sides) in
      let start = opened (bound body.parameters 0 0 values (replicate 132 (pos 0))) scalars steps 0 in
      asks_then shapes (RunEnds (stand_of object operation) here) (InnerEnds object.components (Some operation) here) next here (block w body start) (closed body)
      (block_asks shapes (stand_of object operation) here w k body next start m.1
      (bound_kept body.parameters operation.parameters values (second_of_both (nat_le (length operation.parameters) 4) (parameters_fit body.parameters operation.parameters) sides) suits few, fit))
      (closed_asks operation body m.0)

  -- an object's operations, each of which has its body or none
  pub inner_asks : (bodies : UnitBodies) (number : ℕ) (outer : Callee → List ℤ → Asking Outcome)
      → ((n : ℕ) → BodyOf shapes number object (operation_of bodies number n) (numbered object.operations n))
      → ((next : OperationNumber) (c : Callee) (values : List ℤ) → internal c ≡ None → callee_fits shapes c ≡ true → SuitsValues (wanted shapes object.operations c) values → Asks shapes (OutcomeLeft here) next here (outer c values))
      → ((operation : ℕ) → of_operation (numbered object.operations operation) ≡ of_target (target shapes number operation))
      → (nested : ℕ) (next : OperationNumber) (operation : ℕ) (values scalars : List ℤ) (steps : ℕ) → SuitsValues (of_operation (numbered object.operations operation)) values → all_fit (component_ranges object.components) scalars ≡ true
      → Asks shapes (InnerEnds object.components (numbered object.operations operation) here) next here (inner_at bodies number outer nested operation values scalars steps)
  unfolding inner_at
  inner_asks bodies number outer each f home zero next operation values scalars steps suits fit = (refl, fit, no_overrun (numbered object.operations operation))
  inner_asks bodies number outer each f home (suc nested) next operation values scalars steps suits fit =
      body_asks (record { inner = inner_at bodies number outer nested; outer = outer; object = number; is_task = false; handling = None })
      (record { inner = λ later n vs cs left own comps. inner_asks bodies number outer each f home nested later n vs cs left own comps; outer = f; home = home })
      (numbered object.operations operation) (operation_of bodies number operation) (each operation) next values scalars steps suits fit
